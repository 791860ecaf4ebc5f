-- No balance is above what was deposited: a device gives back no more than it was granted.
use Rattle.std.proofs.Common.{◌≡◌, ◌≤◌, ℕ, ◌+◌, ◌-◌, Bool, true, false, cond, List, [], ◌∷◌, ⊎_elim, refl, subst, arith}
use Rattle.std.specs.Prelude.{◌&&◌}
use Rattle.std.proofs.lemmas.Bool.{and_parts}
use Rattle.bench_base.specs.declared.{words.Verdict.Verdict, ledger.Commit.Commit, ledger.Commit.TheVariants.Ruled}
use Rattle.bench_base.specs.Kinds.{is_granted, empties}
use Rattle.bench_base.specs.Ledger.{Ledger, counted}
use Rattle.bench_base.specs.Rules.{Rules}
use Rattle.bench_base.proofs.Facts.{either, when}
use Rattle.psd_wire.specs.declared.message.Request.{Request}
use Rattle.ledger_terms.specs.Requests.{request_in}
use Rattle.ledger_terms.specs.Sums.{adds, takes, bought, returned, descending}
use Rattle.ledger_terms.specs.Centres.{enrolled, is_some_at, deposits, customer_sum, customer_bought, customer_returned, device_numbers, device_share, sum_over}
use Rattle.ledger_terms.specs.Editions.{Editions}
use Rattle.ledger_terms.specs.Lawful.{Always, Lawful, LawfulAt, Balances, Refunds}
use Rattle.ledger_moves.specs.Histories.{History}
use Rattle.ledger_moves.specs.Tariffs.{Tariff}
use Rattle.ledger_laws.proofs.Good.{Good, Fits}
use Rattle.ledger_laws.proofs.Links.{link, note_le}
use Rattle.ledger_laws.proofs.Money as money
use Rattle.ledger_laws.proofs.Histories.{histories, allows_same, carried_by}
use Rattle.centre_statement.specs.Balances.{BalancesFit}
use Rattle.centre_statement.proofs.Following.{always_map, counted_always}

-- == a device ==

-- a ruling takes off no more than is left, where a granted refund or withdrawal is of all that is left
takes_left : (v : Verdict) (q : Request) (left : ℕ) → (is_granted v ≡ true → empties q.kind ≡ true → q.amount ≡ left) → takes v q ≤ left
unfolding takes
takes_left v q left all = ⊎_elim
    (λ (none : cond (is_granted v && empties q.kind) q.amount 0 ≡ 0). omega (arith, none))
    (λ (some : ((is_granted v && empties q.kind) ≡ true) × (cond (is_granted v && empties q.kind) q.amount 0 ≡ q.amount)).
    let both = and_parts (is_granted v) (empties q.kind) some.0 in
    let is = some.1 in
    let same = all both.0 both.1 in
    omega (arith, is, same))
    (when (is_granted v && empties q.kind) q.amount)

sums_within : (back out cleared taken loaded added used left : ℕ) → loaded ≡ out → cleared ≡ back → used + cleared ≤ loaded → taken ≤ left → left ≡ loaded - (used + cleared) → back + taken ≤ out + added
sums_within back out cleared taken loaded added used left a b c t l = omega (arith, a, b, c, t, l)

module _ (ρ : Rules) where
  returned_within : (d : ℕ) (C : List Commit) → Good ρ C → Always Refunds C → returned d C ≤ bought d C
  returned_within d [] good refunds = omega arith
  returned_within d (Ruled e n v note ∷ C) good refunds = either e d
      (λ t y.
      let fits = subst (λ z. Fits ρ (Ruled z n v note) C) y good.0 in
      let next = fits.next in
      let l = link ρ d C good.1 in
      let le = note_le ρ d n note C good.1 fits.asked_as in
      let even = (money.balance ρ d C good.1).even (omega arith) in
      let all : is_granted v ≡ true → empties (request_in note).kind ≡ true → (request_in note).amount ≡ descending d C =
      subst (λ z. is_granted v ≡ true → empties (request_in note).kind ≡ true → (request_in note).amount ≡ descending z C) y refunds.0 in
      rw t (sums_within (returned d C) (bought d C) _ (takes v (request_in note)) _ (adds v (request_in note)) _ (descending d C) even.0 even.1 (money.funds ρ d C good.1).covered
      (takes_left v (request_in note) (descending d C) all) refl))
      (λ t. rw t (returned_within d C good.1 refunds.1))
  returned_within d (_ ∷ C) good refunds = returned_within d C good.1 refunds.1

  -- == a customer ==

  part_within : (b : Bool) (x y : ℕ) → x ≤ y → cond b x 0 ≤ cond b y 0
  part_within true x y le = le
  part_within false x y le = omega arith

  sum_within : (f g : ℕ → ℕ) (l : List ℕ) → ((d : ℕ) → f d ≤ g d) → sum_over f l ≤ sum_over g l
  sum_within f g [] each = omega arith
  sum_within f g (d ∷ l) each = let here = each d in let rest = sum_within f g l each in omega (arith, here, rest)

  customer_within : (w : ℕ) (C : List Commit) → Good ρ C → Always Refunds C → customer_returned w C ≤ customer_bought w C
  unfolding customer_sum
  customer_within w C good refunds =
      sum_within (device_share takes w C) (device_share adds w C) device_numbers (λ d. part_within (is_some_at (enrolled d C) w) (returned d C) (bought d C) (returned_within d C good refunds))

  capped : (dep r b : ℕ) → r ≤ b → dep ≤ 1000000000000000 → (dep + r) - b ≤ 1000000000000000
  capped dep r b le limit = omega (arith, le, limit)

  fit_lists : (C : List Commit) → Good ρ C → Always Refunds C → Always Balances C → BalancesFit C
  fit_lists [] good refunds solvent = tt
  fit_lists (c ∷ C) good refunds solvent = (
    λ w range. capped (deposits w (c ∷ C)) (customer_returned w (c ∷ C)) (customer_bought w (c ∷ C)) (customer_within w (c ∷ C) good refunds) (solvent.0 w range.0 range.1).limit,
    fit_lists C good.1 refunds.1 solvent.1,
  )

pub all_fit : (τ : Tariff) (ρ : Rules) (ρs : List Rules) (H : Ledger) → Editions (ρ ∷ ρs) → History τ (ρ ∷ ρs) H → Lawful ρ H → BalancesFit (counted H)
all_fit τ ρ ρs H editions history lawful =
    fit_lists ρ (counted H) (histories τ (ρ ∷ ρs) editions H history ρ (carried_by ρs ρ editions.0, allows_same ρ)).good
    (counted_always Refunds H (always_map (LawfulAt ρ) (λ B. Refunds (counted B)) (λ B at. at.refunds) H lawful))
    (counted_always Balances H (always_map (LawfulAt ρ) (λ B. Balances (counted B)) (λ B at. at.balances) H lawful))
