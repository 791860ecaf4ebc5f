use Rattle.std.proofs.Common.{◌≡◌, ℕ, ◌+◌, ◌-◌, length, length-set, set, Some, rules, sym, ap, subst, ◌∙◌, arith}
use Rattle.bench_base.specs.Ranges.{IsCustomer}
use Rattle.centre_ledger.specs.Books.{Books, kept_at, deposits_in, customer_at, IsDerived}
use Rattle.centre_ledger.proofs.Kept.{putting_customer, kept_size, had, deposits_before, kept_own, kept_other, customer_kept}
use Rattle.centre_ledger.proofs.accounts.Accounts.put_customer.Goals as goal

pub add-requires : goal.add-requires
add-requires c =
    let b : Books = record { devices = c.self.inside.devices; customers = c.self.inside.customers } in
    let r = c.args.row.now in
    let p = putting_customer b c.args.self.now r c.self.inside.balances c.self.invariant c.self.view_is c.requires (search rules) in
    let was = had b r c.self.inside.balances p in
    omega (arith, was.sum, was.most, was.then_most, was.given_back)

pub take-requires : goal.take-requires
take-requires c =
    let b : Books = record { devices = c.self.inside.devices; customers = c.self.inside.customers } in
    let r = c.args.row.now in
    let p = putting_customer b c.args.self.now r c.self.inside.balances c.self.invariant c.self.view_is c.requires (search rules) in
    let was = had b r c.self.inside.balances p in
    let before = deposits_before b r c.self.inside.balances c.get.result c.deposits_in-before.result c.index-self-place.result p c.get.ensures.value c.deposits_in-before.ensures in
    let size = kept_size b c.self.inside.balances p.sound p.kept in
    let added = kept_own c.self.inside.balances c.add.new.self r.customer (kept_at c.self.inside.balances r.customer + r.deposits) size p.customer c.add.ensures in
    omega (arith, before, added, was.sum, was.then_covered)

pub invariant_of-self : goal.invariant_of-self
invariant_of-self c =
    let b : Books = record { devices = c.self.inside.devices; customers = c.self.inside.customers } in
    let r = c.args.row.now in
    let p = putting_customer b c.args.self.now r c.self.inside.balances c.self.invariant c.self.view_is c.requires (search rules) in
    let was = had b r c.self.inside.balances p in
    let before = deposits_before b r c.self.inside.balances c.get.result c.deposits_in-before.result c.index-self-place.result p c.get.ensures.value c.deposits_in-before.ensures in
    let size = kept_size b c.self.inside.balances p.sound p.kept in
    let added = kept_own c.self.inside.balances c.add.new.self r.customer (kept_at c.self.inside.balances r.customer + r.deposits) size p.customer c.add.ensures in
    let size_then : length c.add.new.self ≡ 64 = ap length c.add.ensures ∙ length-set c.self.inside.balances (r.customer - 1) _ ∙ size in
    let taken = kept_own c.add.new.self c.take.new.self r.customer (kept_at c.add.new.self r.customer - c.deposits_in-before.result) size_then p.customer c.take.ensures in
    let size_last : length c.take.new.self ≡ 64 = ap length c.take.ensures ∙ length-set c.add.new.self (r.customer - 1) _ ∙ size_then in
    let own : kept_at c.take.new.self r.customer + deposits_in (customer_at b r.customer) ≡ kept_at c.self.inside.balances r.customer + r.deposits = omega (arith, before, added, taken, was.sum, was.then_covered) in
    let others : (w : ℕ) → IsCustomer w → (w ≡ r.customer → ⊥) → kept_at c.take.new.self w ≡ kept_at c.self.inside.balances w = λ w in_w other.
    kept_other c.add.new.self c.take.new.self r.customer w _ p.customer in_w other c.take.ensures ∙ kept_other c.self.inside.balances c.add.new.self r.customer w _ p.customer in_w other c.add.ensures in
    subst (λ d. IsDerived (record { devices = b.devices; customers = set b.customers (d - 1) (Some r) }) c.take.new.self) (sym c.get.ensures.value)
    (customer_kept b r c.self.inside.balances c.take.new.self p size_last own others)
