-- What a pending Request shows is what the centre holds of the device, since the centre has no ruling that the device hasn't
-- applied. So no Request that was asked is ever ruled to disagree with the centre's sums.

use Rattle.std.proofs.Common.{◌≡◌, ℕ, ◌+◌, ◌<◌, ◌≤◌, Bool, true, false, List, [], ◌∷◌, Option, Some, None, ⊎_elim, refl, sym, ap, subst, ◌∙◌, true≢false, not, arith}
use Rattle.std.specs.Prelude.{◌==◌, ◌&&◌, ◌||◌, nat_lt}
use Rattle.std.proofs.lemmas.Bool.{eq-eqb, ne_eqb, le-ltb}
use Rattle.bench_base.specs.declared.{words.Kind.TheVariants.Enrol, words.Kind.TheVariants.Reset, words.Kind.TheVariants.Audit, words.Verdict.Verdict, words.Verdict.TheVariants.Granted, ledger.Commit.Commit, ledger.Commit.TheVariants.Asked, ledger.Commit.TheVariants.Applied, ledger.Commit.TheVariants.Ruled}
use Rattle.bench_base.specs.Rules.{Rules}
use Rattle.bench_base.specs.Kinds.{same_kind, empties}
use Rattle.psd_wire.specs.declared.message.Request.{Request}
use Rattle.ledger_terms.specs.Requests.{request_in, note_of}
use Rattle.ledger_terms.specs.Sums.{adds, loaded, refunded, bought, returned}
use Rattle.ledger_terms.specs.Devices.{asked, number, pending, unless_applied}
use Rattle.ledger_terms.specs.Centres.{ruled}
use Rattle.ledger_terms.specs.InFlight.{ruling_of}
use Rattle.ledger_laws.proofs.Good.{Good, Fits}
use Rattle.ledger_laws.proofs.Links.{link, waits, waits_some, note_le, Waits}
use Rattle.std.proofs.lemmas.Option.{same_Some}
use Rattle.bench_base.specs.Rows.{any_true}
use Rattle.bench_base.proofs.Facts.{either, found}
use Rattle.bench_base.proofs.Rows.{first_that}
use Rattle.ledger_terms.specs.Rulings.{verdict, verdict_by, verdict_rows, account_of, out_of_balance, imbalances, buys_limit}
use Rattle.ledger_terms.specs.Sane.{is_imbalance}
use Rattle.ledger_laws.proofs.Money.{funds, balance}
use Rattle.ledger_laws.proofs.Asked.{pending_asked, note_reads}

pub record Shown (q : Request) (loaded cleared : ℕ) : Type 0 where
  pub total : q.ascending + q.descending + q.refunded ≡ loaded
  pub refunded : q.refunded ≡ cleared
  pub whole : empties q.kind ≡ true → q.amount ≡ q.descending
  pub size : same_kind q.kind Reset ≡ true → (1 ≤ q.amount) × (q.amount ≤ 10000000)
  pub nothing : (same_kind q.kind Enrol || same_kind q.kind Audit) ≡ true → q.amount ≡ 0
  pub within : loaded + adds Granted q ≤ buys_limit q.version

abbrev Shows : Option (ℕ × List ℕ) → ℕ → ℕ → Type 0
Shows None loaded refunded = Unit {0}
Shows (Some p) loaded refunded = Shown (request_in p.1) loaded refunded

module _ (ρ : Rules) where
  shows_applied : (n : ℕ) (w : Option (ℕ × List ℕ)) (p : ℕ × List ℕ) (a b : ℕ) → w ≡ Some p → p.0 ≡ n → Shows (unless_applied n w) a b
  shows_applied n None p a b h e = cc
  shows_applied n (Some q) p a b h e = let same : q.0 ≡ n = ap (λ (z : ℕ × List ℕ). z.0) (same_Some _ _ h) ∙ e in rw (eq-eqb q.0 n same) tt

  shows : (d : ℕ) (C : List Commit) → Good ρ C → Shows (pending d C) (loaded d C) (refunded d C)
  shows d [] g = tt
  shows d (Asked f n r ∷ C) g = either f d
      (λ t y.
      let fits = subst (λ z. Fits ρ (Asked z n r) C) y g.0 in
      let u = funds ρ d C g.1 in
      let covered = u.covered in
      let a = fits.ascending in
      let b = fits.descending in
      let c = fits.refunded in
      rw t (record { total = omega arith; refunded = fits.refunded; whole = λ h. fits.all h ∙ sym fits.descending; size = fits.size; nothing = fits.nothing; within = fits.bound }))
      (λ t. rw t (shows d C g.1))
  shows d (Applied f n v ∷ C) g = either f d
      (λ t y.
      let fits = subst (λ z. Fits ρ (Applied z n v) C) y g.0 in
      rw t (shows_applied n (pending d C) (n, fits.note) _ _ fits.waits refl))
      (λ t. rw t (shows d C g.1))
  shows d (_ ∷ C) g = shows d C g.1

  shown : (w : Option (ℕ × List ℕ)) (p : ℕ × List ℕ) (a b : ℕ) → w ≡ Some p → Shows w a b → Shown (request_in p.1) a b
  shown None p a b h s = cc
  shown (Some q) p a b h s = subst (λ (z : ℕ × List ℕ). Shown (request_in z.1) a b) (same_Some _ _ h) s

  pub some_if : (w : Option (ℕ × List ℕ)) (a k : ℕ) → Waits ρ w a k → k < a → (p : ℕ × List ℕ) × (w ≡ Some p)
  some_if None a k h lt = absurd (omega arith)
  some_if (Some p) a k h lt = (p, refl)

  -- a Request that the centre has not ruled shows what the centre holds of the device
  pub new_shown : (d n : ℕ) (r : List ℕ) (C : List Commit) → Good ρ C → note_of d n C ≡ Some r → ruled d C < n → Shown (request_in r) (bought d C) (returned d C)
  new_shown d n r C g at above =
      let l = link ρ d C g in
      let le = note_le ρ d n r C g at in
      let p = some_if (pending d C) (asked d C) (number d C) (waits ρ d C g) (omega arith) in
      let w = waits_some ρ (pending d C) (asked d C) (number d C) p.0.0 p.0.1 p.1 (waits ρ d C g) in
      let same : p.0.0 ≡ n = omega arith in
      let there = subst (λ z. note_of d z C ≡ Some p.0.1) same (pending_asked ρ d p.0 C g p.1) in
      let is : p.0.1 ≡ r = same_Some _ _ (sym there ∙ at) in
      let b = (balance ρ d C g).even (omega arith) in
      let s = shown (pending d C) p.0 (loaded d C) (refunded d C) p.1 (shows d C g) in
      subst (λ (z : List ℕ × ℕ × ℕ). Shown (request_in z.0) z.1 z.2) (λ j. (is j, b.0 j, b.1 j)) s

  and_zero : (x y : Bool) → (x ≡ true → y ≡ false) → (x && y) ≡ false
  and_zero true y h = h refl
  and_zero false y h = refl

  AllNo : List Bool → Type 0
  AllNo [] = Unit {0}
  AllNo (b ∷ bs) = (b ≡ false) × AllNo bs

  none_true : (bs : List Bool) → AllNo bs → any_true bs ≡ false
  unfolding AllNo
  none_true [] h = refl
  none_true (b ∷ bs) h = rw h.0 (none_true bs h.1)

  no_if : (a b : ℕ) → a ≡ b → not (a == b) ≡ false
  no_if a b h = rw (eq-eqb a b h) refl

  in_balance : (q : Request) (bought returned : ℕ) → Shown q bought returned → out_of_balance q bought returned ≡ false
  unfolding AllNo adds
  in_balance q bought returned s =
      let within = s.within in
      let size : same_kind q.kind Reset ≡ true → AllNo ((q.amount == 0) ∷ nat_lt 10000000 q.amount ∷ nat_lt (buys_limit q.version) (bought + q.amount) ∷ []) = λ h.
      let it = s.size h in
      let more : adds Granted q ≡ q.amount = rw h refl in
      (ne_eqb q.amount 0 (λ z. omega arith), (le-ltb 10000000 q.amount it.1, (le-ltb (buys_limit q.version) (bought + q.amount) (omega arith), tt))) in
      none_true (imbalances q bought returned) (
        no_if (q.ascending + q.descending + q.refunded) bought s.total,
        (
          no_if q.refunded returned s.refunded,
          (
            and_zero (empties q.kind) (not (q.amount == q.descending)) (λ h. no_if q.amount q.descending (s.whole h)),
            (
              and_zero (same_kind q.kind Enrol || same_kind q.kind Audit) (not (q.amount == 0)) (λ h. no_if q.amount 0 (s.nothing h)),
              (and_zero (same_kind q.kind Reset) (any_true ((q.amount == 0) ∷ nat_lt 10000000 q.amount ∷ nat_lt (buys_limit q.version) (bought + q.amount) ∷ [])) (λ h. none_true ((q.amount == 0) ∷ nat_lt 10000000 q.amount ∷ nat_lt (buys_limit q.version) (bought + q.amount) ∷ []) (size h)), tt),
            ),
          ),
        ),
      )

  pub never_imbalance : (C : List Commit) (q : Request) → Shown q (bought q.device C) (returned q.device C) → is_imbalance (verdict C q).0 ≡ false
  unfolding verdict verdict_by
  never_imbalance C q s = first_that (λ (x : Verdict × ℕ). is_imbalance x.0 ≡ false) (verdict_rows (account_of C q) q) (Granted, q.amount)
      ((λ _. refl), ((λ _. refl), ((λ t. absurd (true≢false (sym t ∙ in_balance q (bought q.device C) (returned q.device C) s))), ((λ _. refl), ((λ _. refl), ((λ _. refl), tt)))))) (λ _. refl)

  pub sane_here : (d n : ℕ) (v : Verdict) (r : List ℕ) (C : List Commit) → Good ρ (Ruled d n v r ∷ C) → is_imbalance v ≡ false
  sane_here d n v r C g =
      let it = note_reads ρ d n r C g.1 g.0.asked_as in
      let next = g.0.next in
      let shown = new_shown d n r C g.1 g.0.asked_as (omega arith) in
      let at = subst (λ z. Shown (request_in r) (bought z C) (returned z C)) (sym it.device) shown in
      ap is_imbalance g.0.verdict ∙ never_imbalance C (request_in r) at

  -- a ruling that counts is not that the sums disagree
  pub ruling_sane : (d n : ℕ) (x : Verdict × List ℕ) (C : List Commit) → Good ρ C → ruling_of d n C ≡ Some x → is_imbalance x.0 ≡ false
  ruling_sane d n x [] g h = cc
  ruling_sane d n x (Ruled f k v r ∷ C) g h = ⊎_elim
      (λ (t : (((f == d) && (k == n)) ≡ true) × ((v, r) ≡ x)). subst (λ (z : Verdict × List ℕ). is_imbalance z.0 ≡ false) t.1 (sane_here f k v r C g))
      (λ (o : ruling_of d n C ≡ Some x). ruling_sane d n x C g.1 o)
      (found ((f == d) && (k == n)) (ruling_of d n C) (v, r) x h)
  ruling_sane d n x (_ ∷ C) g h = ruling_sane d n x C g.1 h
