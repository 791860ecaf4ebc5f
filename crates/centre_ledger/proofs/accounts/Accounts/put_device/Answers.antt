use Rattle.std.proofs.Common.{◌≡◌, ◌+◌, ◌-◌, ◌^◌, ◌<◌, length, set, Some, rules, sym, ap, subst, ◌∙◌}
use Rattle.centre_ledger.specs.Books.{Books, kept_at, spent_in, IsDerived}
use Rattle.centre_ledger.proofs.Kept.{GivenBack, putting, kept_size, before_is, fits, covers, device_kept}
use Rattle.centre_ledger.proofs.accounts.Accounts.put_device.Goals as goal

pub give_back-requires-clause-fits : goal.give_back-requires-clause-fits
give_back-requires-clause-fits c =
    let b : Books = record { devices = c.self.inside.devices; customers = c.self.inside.customers } in
    let r = c.args.row.now in
    let p = putting b c.args.self.now r c.self.inside.balances c.get.result c.self.invariant c.self.view_is c.requires c.get.ensures.value (search rules) in
    let before = before_is b r c.self.inside.balances c.get.result c.index-self-place.result p c.get.ensures.value c.index-self-place.is in
    λ w in_w. subst (λ o. kept_at c.self.inside.balances w + spent_in w o < 2 ^ 64) (sym before ∙ c.index-self-place.is ∙ sym c.plain-before.ensures) (fits b r c.self.inside.balances p w in_w)

pub charge-requires-clause-covered : goal.charge-requires-clause-covered
charge-requires-clause-covered c =
    let b : Books = record { devices = c.self.inside.devices; customers = c.self.inside.customers } in
    let r = c.args.row.now in
    let p = putting b c.args.self.now r c.self.inside.balances c.get.result c.self.invariant c.self.view_is c.requires c.get.ensures.value (search rules) in
    let before = before_is b r c.self.inside.balances c.get.result c.index-self-place.result p c.get.ensures.value c.index-self-place.is in
    let back : GivenBack b r c.self.inside.balances c.give_back.new.balances = record {
      each = λ w in_w. c.give_back.ensures.given w in_w ∙ ap (λ o. kept_at c.self.inside.balances w + spent_in w o) (c.plain-before.ensures ∙ sym c.index-self-place.is ∙ before);
    } in
    covers b r c.self.inside.balances c.give_back.new.balances p back

pub invariant_of-self : goal.invariant_of-self
invariant_of-self c =
    let b : Books = record { devices = c.self.inside.devices; customers = c.self.inside.customers } in
    let r = c.args.row.now in
    let p = putting b c.args.self.now r c.self.inside.balances c.get.result c.self.invariant c.self.view_is c.requires c.get.ensures.value (search rules) in
    let before = before_is b r c.self.inside.balances c.get.result c.index-self-place.result p c.get.ensures.value c.index-self-place.is in
    let back : GivenBack b r c.self.inside.balances c.give_back.new.balances = record {
      each = λ w in_w. c.give_back.ensures.given w in_w ∙ ap (λ o. kept_at c.self.inside.balances w + spent_in w o) (c.plain-before.ensures ∙ sym c.index-self-place.is ∙ before);
    } in
    let size : length c.charge.new.balances ≡ 64 = c.charge.ensures.size ∙ c.give_back.ensures.size ∙ kept_size b c.self.inside.balances p.sound p.kept in
    subst (λ o. IsDerived (record { devices = set b.devices (c.get.result - 1) o; customers = b.customers }) c.charge.new.balances) (sym c.keep.ensures)
    (subst (λ d. IsDerived (record { devices = set b.devices (d - 1) (Some r); customers = b.customers }) c.charge.new.balances) (sym c.get.ensures.value)
    (device_kept b r c.self.inside.balances c.give_back.new.balances c.charge.new.balances p back size c.charge.ensures.taken))
