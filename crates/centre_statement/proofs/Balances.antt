-- What a commit changes of a customer's balance.
use Rattle.std.proofs.Common.{◌≡◌, ◌≢◌, ◌⊎◌, inl, inr, ℕ, ◌+◌, Bool, true, false, List, [], ◌∷◌, Option, Some, None, refl, sym, subst, ◌∙◌, true≢false, arith, zero, suc, eqb}
use Rattle.std.specs.Prelude.{◌==◌, ◌&&◌, if◌then◌else◌}
use Rattle.std.proofs.lemmas.Bool.{cases_Bool, eqb-true, ne_eqb, eq-eqb}
use Rattle.std.proofs.lemmas.Option.{same_Some}
use Rattle.bench_base.specs.declared.{words.Kind.Kind, words.Kind.TheVariants.Enrol, words.Kind.TheVariants.Reset, words.Kind.TheVariants.Audit, words.Kind.TheVariants.Refund, words.Kind.TheVariants.Withdraw, words.Verdict.Verdict, ledger.Commit.Commit, ledger.Commit.TheVariants.Made, ledger.Commit.TheVariants.Asked, ledger.Commit.TheVariants.Applied, ledger.Commit.TheVariants.Debited, ledger.Commit.TheVariants.Registered, ledger.Commit.TheVariants.Opened, ledger.Commit.TheVariants.Deposited, ledger.Commit.TheVariants.Flagged, ledger.Commit.TheVariants.Ruled, ledger.Commit.TheVariants.Settled, ledger.Commit.TheVariants.Ordered, ledger.Commit.TheVariants.Held, ledger.Commit.TheVariants.Began, ledger.Commit.TheVariants.Closed, ledger.Commit.TheVariants.Trusted, ledger.Commit.TheVariants.Accepted}
use Rattle.bench_base.specs.Kinds.{same_kind, is_granted, empties}
use Rattle.bench_base.specs.Ranges.{IsDevice}
use Rattle.bench_base.specs.Rows.{first_of}
use Rattle.psd_wire.specs.declared.message.Request.{Request}
use Rattle.ledger_terms.specs.Requests.{request_in}
use Rattle.ledger_terms.specs.Sums.{adds, takes, ruled_sum}
use Rattle.ledger_terms.specs.Centres.{enrolled, customer_sum, is_some_at, device_numbers, sum_over, device_share}
use Rattle.ledger_terms.specs.Further.{HasOwner}
use Rattle.bench_base.proofs.Facts.{no_reset}

-- each ruling of the list has the owner of its device
abbrev pub Owned : List Commit → Type 0
Owned [] = Unit {0}
Owned (c ∷ C) = HasOwner (c ∷ C) × Owned C

-- an amount that only a granted ruling on another kind than an enrolment has
pub record IsMove (f : Verdict → Request → ℕ) : Type 0 where
  pub granted : (v : Verdict) (q : Request) → is_granted v ≡ false → f v q ≡ 0
  pub enrol : (v : Verdict) (q : Request) → same_kind q.kind Enrol ≡ true → f v q ≡ 0

-- == a sum that changes at one device ==

pub sum_one : (f g : ℕ → ℕ) (d x : ℕ) → IsDevice d → ((e : ℕ) → e ≢ d → f e ≡ g e) → f d ≡ g d + x → sum_over f device_numbers ≡ sum_over g device_numbers + x
sum_one f g zero x range rest is = absurd (omega (arith, range.0))
sum_one f g (suc zero) x range rest is = omega (arith, is, rest 2 (λ e. omega (arith, e)), rest 3 (λ e. omega (arith, e)), rest 4 (λ e. omega (arith, e)), rest 5 (λ e. omega (arith, e)), rest 6 (λ e. omega (arith, e)), rest 7 (λ e. omega (arith, e)), rest 8 (λ e. omega (arith, e)))
sum_one f g (suc (suc zero)) x range rest is = omega (arith, is, rest 1 (λ e. omega (arith, e)), rest 3 (λ e. omega (arith, e)), rest 4 (λ e. omega (arith, e)), rest 5 (λ e. omega (arith, e)), rest 6 (λ e. omega (arith, e)), rest 7 (λ e. omega (arith, e)), rest 8 (λ e. omega (arith, e)))
sum_one f g (suc (suc (suc zero))) x range rest is = omega (arith, is, rest 1 (λ e. omega (arith, e)), rest 2 (λ e. omega (arith, e)), rest 4 (λ e. omega (arith, e)), rest 5 (λ e. omega (arith, e)), rest 6 (λ e. omega (arith, e)), rest 7 (λ e. omega (arith, e)), rest 8 (λ e. omega (arith, e)))
sum_one f g (suc (suc (suc (suc zero)))) x range rest is = omega (arith, is, rest 1 (λ e. omega (arith, e)), rest 2 (λ e. omega (arith, e)), rest 3 (λ e. omega (arith, e)), rest 5 (λ e. omega (arith, e)), rest 6 (λ e. omega (arith, e)), rest 7 (λ e. omega (arith, e)), rest 8 (λ e. omega (arith, e)))
sum_one f g (suc (suc (suc (suc (suc zero))))) x range rest is = omega (arith, is, rest 1 (λ e. omega (arith, e)), rest 2 (λ e. omega (arith, e)), rest 3 (λ e. omega (arith, e)), rest 4 (λ e. omega (arith, e)), rest 6 (λ e. omega (arith, e)), rest 7 (λ e. omega (arith, e)), rest 8 (λ e. omega (arith, e)))
sum_one f g (suc (suc (suc (suc (suc (suc zero)))))) x range rest is = omega (arith, is, rest 1 (λ e. omega (arith, e)), rest 2 (λ e. omega (arith, e)), rest 3 (λ e. omega (arith, e)), rest 4 (λ e. omega (arith, e)), rest 5 (λ e. omega (arith, e)), rest 7 (λ e. omega (arith, e)), rest 8 (λ e. omega (arith, e)))
sum_one f g (suc (suc (suc (suc (suc (suc (suc zero))))))) x range rest is = omega (arith, is, rest 1 (λ e. omega (arith, e)), rest 2 (λ e. omega (arith, e)), rest 3 (λ e. omega (arith, e)), rest 4 (λ e. omega (arith, e)), rest 5 (λ e. omega (arith, e)), rest 6 (λ e. omega (arith, e)), rest 8 (λ e. omega (arith, e)))
sum_one f g (suc (suc (suc (suc (suc (suc (suc (suc zero)))))))) x range rest is = omega (arith, is, rest 1 (λ e. omega (arith, e)), rest 2 (λ e. omega (arith, e)), rest 3 (λ e. omega (arith, e)), rest 4 (λ e. omega (arith, e)), rest 5 (λ e. omega (arith, e)), rest 6 (λ e. omega (arith, e)), rest 7 (λ e. omega (arith, e)))
sum_one f g (suc (suc (suc (suc (suc (suc (suc (suc (suc d))))))))) x range rest is = absurd (omega (arith, range.1))

-- == choices ==

chosen_none : (s t : Bool) (b x : ℕ) → b ≡ 0 → x ≡ 0 → (if s then b + x else 0) ≡ 0 + (if t then x else 0)
chosen_none true true b x zb zx = omega (arith, zb, zx)
chosen_none true false b x zb zx = omega (arith, zb, zx)
chosen_none false true b x zb zx = omega (arith, zb, zx)
chosen_none false false b x zb zx = omega (arith, zb, zx)

chosen_nothing : (s t : Bool) (b x : ℕ) → x ≡ 0 → (if s then b + x else 0) ≡ (if s then b else 0) + (if t then x else 0)
chosen_nothing true true b x zx = omega (arith, zx)
chosen_nothing true false b x zx = omega (arith, zx)
chosen_nothing false true b x zx = omega (arith, zx)
chosen_nothing false false b x zx = omega (arith, zx)

chosen_both : (s : Bool) (b x : ℕ) → (if s then b + x else 0) ≡ (if s then b else 0) + (if s then x else 0)
chosen_both true b x = refl
chosen_both false b x = refl

-- == what a ruling adds to one device's share ==

-- a device that was never enrolled has no such amounts
was_none : (t : Bool) (o : Option ℕ) (w : ℕ) → (if t then first_of o (Some w) else o) ≡ None → o ≡ None
was_none true None w h = refl
was_none true (Some x) w h = h
was_none false o w h = h

none_some : (o : Option ℕ) (x : ℕ) → o ≡ None → o ≡ Some x → ⊥
none_some o x a b = let both : None ≡ Some x = sym a ∙ b in cc

module _ (f : Verdict → Request → ℕ) (move : IsMove f) where
  ruled_none : (v : Verdict) (q : Request) (o : Option ℕ) → o ≡ None → (same_kind q.kind Enrol ≡ false → o ≡ Some q.customer) → f v q ≡ 0
  ruled_none v q o none owner = elim (cases_Bool (same_kind q.kind Enrol)) [
    | inl is ↦ move.enrol v q is
    | inr other ↦ absurd (none_some o q.customer none (owner other))
  ]

  none_moved : (d : ℕ) (C : List Commit) → Owned C → enrolled d C ≡ None → ruled_sum f d C ≡ 0
  none_moved d [] owned none = refl
  none_moved d (Ruled e n v note ∷ C) owned none =
      let was : enrolled d C ≡ None = was_none ((e == d) && (is_granted v && same_kind (request_in note).kind Enrol)) (enrolled d C) (request_in note).customer none in
      let before : ruled_sum f d C ≡ 0 = none_moved d C owned.1 was in
      by_device (cases_Bool (eqb e d)) was before
    where
      by_device : ((eqb e d ≡ true) ⊎ (eqb e d ≡ false)) → enrolled d C ≡ None → ruled_sum f d C ≡ 0 → ruled_sum f d (Ruled e n v note ∷ C) ≡ 0
      by_device (inl is) was before =
          let same : e ≡ d = eqb-true e d is in
          let nothing : f v (request_in note) ≡ 0 = ruled_none v (request_in note) (enrolled d C) was (subst (λ (x : ℕ). same_kind (request_in note).kind Enrol ≡ false → enrolled x C ≡ Some (request_in note).customer) same owned.0) in
          rw is (omega (arith, before, nothing))
      by_device (inr other) was before = rw other before
  none_moved d (Made e key ∷ C) owned none = none_moved d C owned.1 none
  none_moved d (Asked e n note ∷ C) owned none = none_moved d C owned.1 none
  none_moved d (Applied e n v ∷ C) owned none = none_moved d C owned.1 none
  none_moved d (Debited e p a k t v ∷ C) owned none = none_moved d C owned.1 none
  none_moved d (Registered e o key ∷ C) owned none = none_moved d C owned.1 none
  none_moved d (Opened w ∷ C) owned none = none_moved d C owned.1 none
  none_moved d (Deposited w r a ∷ C) owned none = none_moved d C owned.1 none
  none_moved d (Flagged w s ∷ C) owned none = none_moved d C owned.1 none
  none_moved d (Settled e n ∷ C) owned none = none_moved d C owned.1 none
  none_moved d (Ordered j e p a k ∷ C) owned none = none_moved d C owned.1 none
  none_moved d (Held j m ∷ C) owned none = none_moved d C owned.1 none
  none_moved d (Began j ∷ C) owned none = none_moved d C owned.1 none
  none_moved d (Closed j ∷ C) owned none = none_moved d C owned.1 none
  none_moved d (Trusted e key ∷ C) owned none = none_moved d C owned.1 none
  none_moved d (Accepted e p n ∷ C) owned none = none_moved d C owned.1 none

-- by the customer under which the device is enrolled, whether this ruling enrols it, and whether it asks to
share_by : (o : Option ℕ) (t asks : Bool) (q w b x : ℕ) → (o ≡ None → b ≡ 0) → (asks ≡ false → o ≡ Some q) → (asks ≡ true → x ≡ 0) → (t ≡ true → asks ≡ true)
    → (if is_some_at (if t then first_of o (Some q) else o) w then b + x else 0) ≡ (if is_some_at o w then b else 0) + (if q == w then x else 0)
share_by None true true q w b x none owner enrols tells = chosen_none (q == w) (q == w) b x (none refl) (enrols refl)
share_by None false true q w b x none owner enrols tells = chosen_none false (q == w) b x (none refl) (enrols refl)
share_by None t false q w b x none owner enrols tells = absurd (none_some None q refl (owner refl))
share_by (Some y) true true q w b x none owner enrols tells = chosen_nothing (y == w) (q == w) b x (enrols refl)
share_by (Some y) false true q w b x none owner enrols tells = chosen_nothing (y == w) (q == w) b x (enrols refl)
share_by (Some y) true false q w b x none owner enrols tells = absurd (true≢false (sym (tells refl)))
share_by (Some y) false false q w b x none owner enrols tells =
    let same : y ≡ q = same_Some y q (owner refl) in
    subst (λ (z : ℕ). (if y == w then b + x else 0) ≡ (if y == w then b else 0) + (if z == w then x else 0)) same (chosen_both (y == w) b x)

both_true : (a b : Bool) → (a && b) ≡ true → b ≡ true
both_true true b h = h
both_true false b h = absurd (true≢false (sym h))

module _ (f : Verdict → Request → ℕ) (move : IsMove f) (d n : ℕ) (v : Verdict) (note : List ℕ) (C : List Commit) (w : ℕ) where
  -- what a ruling adds to a customer's sum: its amount, where the request is the customer's
  abbrev more : ℕ
  more = if (request_in note).customer == w then f v (request_in note) else 0

  own_share : Owned (Ruled d n v note ∷ C) → device_share f w (Ruled d n v note ∷ C) d ≡ device_share f w C d + more
  own_share owned =
      rw (eq-eqb d d refl)
      (share_by (enrolled d C) (is_granted v && same_kind (request_in note).kind Enrol) (same_kind (request_in note).kind Enrol) (request_in note).customer w (ruled_sum f d C) (f v (request_in note))
      (none_moved f move d C owned.1) owned.0 (move.enrol v (request_in note)) (both_true (is_granted v) (same_kind (request_in note).kind Enrol)))

  other_share : (e : ℕ) → e ≢ d → device_share f w (Ruled d n v note ∷ C) e ≡ device_share f w C e
  other_share e other = let differs : eqb d e ≡ false = ne_eqb d e (λ is. other (sym is)) in rw differs refl

  pub ruled_more : IsDevice d → Owned (Ruled d n v note ∷ C) → customer_sum f w (Ruled d n v note ∷ C) ≡ customer_sum f w C + more
  unfolding customer_sum
  ruled_more range owned = sum_one (device_share f w (Ruled d n v note ∷ C)) (device_share f w C) d more range other_share (own_share owned)

-- == the two sums ==

empties_enrols : (k : Kind) → same_kind k Enrol ≡ true → empties k ≡ false
unfolding same_kind
empties_enrols Enrol h = refl
empties_enrols Reset h = refl
empties_enrols Audit h = refl
empties_enrols Refund h = absurd (true≢false (sym h))
empties_enrols Withdraw h = absurd (true≢false (sym h))

and_not : (a b : Bool) (x : ℕ) → b ≡ false → (if a && b then x else 0) ≡ 0
and_not true b x h = rw h refl
and_not false b x h = refl

pub adds_moves : IsMove adds
unfolding adds
adds_moves = record {
  granted = λ v q h. rw h refl;
  enrol = λ v q h. and_not (is_granted v) (same_kind q.kind Reset) q.amount (no_reset q.kind h);
}

pub takes_moves : IsMove takes
unfolding takes
takes_moves = record {
  granted = λ v q h. rw h refl;
  enrol = λ v q h. and_not (is_granted v) (empties q.kind) q.amount (empties_enrols q.kind h);
}
