-- A customer's balance is never below 0. A granted reset is within the balance of the customer under which the device is
-- enrolled. A ruling changes the sums of one device alone. A device that isn't enrolled has no buys, so its enrolment adds
-- none to its customer.

use Rattle.std.proofs.Common.{◌≡◌, ℕ, ◌+◌, ◌-◌, ◌<◌, ◌≤◌, Bool, true, false, List, [], ◌∷◌, Option, Some, None, cond, ⊎_elim, refl, sym, ap, subst, ◌∙◌, true≢false, arith}
use Rattle.std.specs.Prelude.{◌==◌, ◌&&◌}
use Rattle.std.proofs.lemmas.Bool.{eqb-true, cases_Bool, eq-eqb, and_parts}
use Rattle.std.proofs.lemmas.Option.{same_Some, none-some}
use Rattle.bench_base.specs.declared.{words.Kind.TheVariants.Enrol, words.Kind.TheVariants.Reset, words.Verdict.Verdict, ledger.Commit.Commit, ledger.Commit.TheVariants.Deposited, ledger.Commit.TheVariants.Ruled}
use Rattle.bench_base.specs.Rules.{Rules}
use Rattle.bench_base.specs.Rows.{first_of}
use Rattle.bench_base.specs.Kinds.{same_kind, is_granted}
use Rattle.bench_base.proofs.Facts.{either, when}
use Rattle.psd_wire.specs.declared.message.Request.{Request}
use Rattle.ledger_terms.specs.Requests.{request_in}
use Rattle.ledger_terms.specs.Sums.{adds, takes, ruled_sum}
use Rattle.ledger_laws.proofs.Good.{Good}
use Rattle.ledger_terms.specs.Centres.{enrolled, withdrawn, deposits, customer_sum, balance, is_some_at, device_numbers, sum_over, device_share}
use Rattle.ledger_terms.specs.Rulings.{verdict, account_of, own_customer, has_left, is_enrolled}
use Rattle.centre_ledger.proofs.Passed.{granted}
use Rattle.centre_ledger.proofs.RuledBooks.{no_enrol}
use Rattle.ledger_laws.proofs.Asked.{note_reads}

pub record Grants (C : List Commit) (q : Request) : Type 0 where
  -- a reset is of a device that is enrolled, within the balance
  pub reset : same_kind q.kind Reset ≡ true → (c : ℕ) × (enrolled q.device C ≡ Some c) × (q.amount ≤ balance c C)
  -- an enrolment is of a device that isn't
  pub enrol : same_kind q.kind Enrol ≡ true → enrolled q.device C ≡ None

own : (o : Option ℕ) (gone : Bool) → has_left o gone ≡ false → (c : ℕ) × (o ≡ Some c)
own None gone h = absurd (true≢false h)
own (Some c) gone h = (c, refl)

none : (o : Option ℕ) → is_enrolled o ≡ false → o ≡ None
none None h = refl
none (Some c) h = absurd (true≢false h)

pub grants : (C : List Commit) (q : Request) → is_granted (verdict C q).0 ≡ true → Grants C q
unfolding verdict
grants C q h =
    let may = granted (account_of C q) q h in
    record {
      reset = λ k.
          let o = own (enrolled q.device C) (withdrawn q.device C) (may.left (no_enrol q.kind k)) in
          (o.0, o.1, subst (λ (z : Option ℕ). q.amount ≤ balance (own_customer z) C) o.1 (may.funded k));
      enrol = λ k. none (enrolled q.device C) (may.new k);
    }

-- == a sum that changes at one place ==

increasing : ℕ → List ℕ → Type 0
increasing b [] = Unit {0}
increasing b (x ∷ xs) = (b < x) × increasing x xs

at : ℕ → ℕ → ℕ → ℕ
at e a d = cond (e == d) a 0

none_above : (e a b : ℕ) (L : List ℕ) → e ≤ b → increasing b L → sum_over (at e a) L ≡ 0
unfolding increasing at
none_above e a b [] le h = refl
none_above e a b (x ∷ xs) le h = either e x
    (λ t y. absurd (let lt = h.0 in omega arith))
    (λ t. let lt = h.0 in rw t (let z = none_above e a x xs (omega arith) h.1 in omega arith))

once : (e a b : ℕ) (L : List ℕ) → increasing b L → sum_over (at e a) L ≤ a
unfolding increasing at
once e a b [] h = omega arith
once e a b (x ∷ xs) h = either e x
    (λ t y. rw t (let z = none_above e a x xs (omega arith) h.1 in omega arith))
    (λ t. rw t (let z = once e a x xs h.1 in omega arith))

sum_more : (f g h : ℕ → ℕ) (L : List ℕ) → ((d : ℕ) → f d ≤ g d + h d) → sum_over f L ≤ sum_over g L + sum_over h L
sum_more f g h [] p = omega arith
sum_more f g h (x ∷ xs) p = let a = p x in let b = sum_more f g h xs p in omega arith

sum_le : (f g : ℕ → ℕ) (L : List ℕ) → ((d : ℕ) → f d ≤ g d) → sum_over f L ≤ sum_over g L
sum_le f g [] p = omega arith
sum_le f g (x ∷ xs) p = let a = p x in let b = sum_le f g xs p in omega arith

devices : increasing 0 device_numbers
unfolding increasing
devices = (omega arith, (omega arith, (omega arith, (omega arith, (omega arith, (omega arith, (omega arith, (omega arith, tt))))))))

-- == one device's part of a customer's sum ==

adds_not : (v : Verdict) (q : Request) → is_granted v ≡ false → adds v q ≡ 0
unfolding adds
adds_not v q h = rw h refl

adds_kind : (v : Verdict) (q : Request) → same_kind q.kind Reset ≡ false → adds v q ≡ 0
unfolding adds
adds_kind v q h = ⊎_elim
    (λ (t : is_granted v ≡ true). rw (t, h) refl)
    (λ (t : is_granted v ≡ false). adds_not v q t)
    (cases_Bool (is_granted v))

was_none : {A : Type 0} (t : Bool) (o : Option A) (a : A) → cond t (first_of o (Some a)) o ≡ None → o ≡ None
was_none true None a h = refl
was_none true (Some x) a h = h
was_none false o a h = h

split : (s : Bool) (b a : ℕ) → cond s (b + a) 0 ≤ cond s b 0 + cond s a 0
split true b a = omega arith
split false b a = omega arith

more : (s : Bool) (b a : ℕ) → cond s b 0 ≤ cond s (b + a) 0
more true b a = omega arith
more false b a = omega arith

below : (s : Bool) (x : ℕ) → cond s x 0 ≤ x
below true x = omega arith
below false x = omega arith

adds_plain : (o : Option ℕ) (t : Bool) (w c b a : ℕ) → (o ≡ None → (b ≡ 0) × (a ≡ 0)) → cond (is_some_at (cond t (first_of o (Some w)) o) c) (b + a) 0 ≤ cond (is_some_at o c) b 0 + cond (is_some_at o c) a 0
adds_plain None t w c b a h = let z = h refl in let l = below (is_some_at (cond t (Some w) None) c) (b + a) in omega arith
adds_plain (Some x) true w c b a h = split (x == c) b a
adds_plain (Some x) false w c b a h = split (x == c) b a

takes_plain : (o : Option ℕ) (t : Bool) (w c b a : ℕ) → cond (is_some_at o c) b 0 ≤ cond (is_some_at (cond t (first_of o (Some w)) o) c) (b + a) 0
takes_plain None t w c b a = omega arith
takes_plain (Some x) true w c b a = more (x == c) b a
takes_plain (Some x) false w c b a = more (x == c) b a

-- what a granted ruling that fits implies
module _ (ρ : Rules) (f n : ℕ) (v : Verdict) (r : List ℕ) (C : List Commit) (g : Good ρ (Ruled f n v r ∷ C)) where
  device_is : (request_in r).device ≡ f
  device_is = (note_reads ρ f n r C g.1 g.0.asked_as).device

  reset_is : is_granted v ≡ true → same_kind (request_in r).kind Reset ≡ true → (c : ℕ) × (enrolled f C ≡ Some c) × ((request_in r).amount ≤ balance c C)
  reset_is h k =
      let it = (grants C (request_in r) (ap is_granted (sym g.0.verdict) ∙ h)).reset k in
      (it.0, subst (λ z. enrolled z C ≡ Some it.0) device_is it.1, it.2)

  no_adds : enrolled f C ≡ None → adds v (request_in r) ≡ 0
  no_adds none = ⊎_elim
      (λ (h : is_granted v ≡ true). ⊎_elim
      (λ (k : same_kind (request_in r).kind Reset ≡ true). let it = reset_is h k in absurd (none-some _ (sym none ∙ it.1)))
      (λ (k : same_kind (request_in r).kind Reset ≡ false). adds_kind v (request_in r) k)
      (cases_Bool (same_kind (request_in r).kind Reset)))
      (λ (h : is_granted v ≡ false). adds_not v (request_in r) h)
      (cases_Bool (is_granted v))

-- the sums of a device that was never enrolled
zero : (ρ : Rules) (d : ℕ) (C : List Commit) → Good ρ C → enrolled d C ≡ None → ruled_sum adds d C ≡ 0
zero ρ d [] g h = refl
zero ρ d (Ruled f n v r ∷ C) g h =
    let was = was_none ((f == d) && (is_granted v && same_kind (request_in r).kind Enrol)) (enrolled d C) (request_in r).customer h in
    let z = zero ρ d C g.1 was in
    either f d
    (λ t y. let none = no_adds ρ f n v r C g (subst (λ x. enrolled x C ≡ None) (sym y) was) in rw t (omega arith))
    (λ t. rw t z)
zero ρ d (_ ∷ C) g h = zero ρ d C g.1 h

adds_part : (ρ : Rules) (c f n : ℕ) (v : Verdict) (r : List ℕ) (C : List Commit) → Good ρ (Ruled f n v r ∷ C) → (d : ℕ) → device_share adds c (Ruled f n v r ∷ C) d ≤ device_share adds c C d + at f (cond (is_some_at (enrolled f C) c) (adds v (request_in r)) 0) d
unfolding at
adds_part ρ c f n v r C g d = either f d
    (λ t y. subst (λ z. device_share adds c (Ruled f n v r ∷ C) z ≤ device_share adds c C z + at f (cond (is_some_at (enrolled f C) c) (adds v (request_in r)) 0) z) y
    (rw (eq-eqb f f refl) (adds_plain (enrolled f C) (is_granted v && same_kind (request_in r).kind Enrol) (request_in r).customer c (ruled_sum adds f C) (adds v (request_in r)) (λ none. (zero ρ f C g.1 none, no_adds ρ f n v r C g none)))))
    (λ t. rw t (omega arith))

takes_part : (ρ : Rules) (c f n : ℕ) (v : Verdict) (r : List ℕ) (C : List Commit) → (d : ℕ) → device_share takes c C d ≤ device_share takes c (Ruled f n v r ∷ C) d
takes_part ρ c f n v r C d = either f d
    (λ t y. rw t (takes_plain (enrolled d C) (is_granted v && same_kind (request_in r).kind Enrol) (request_in r).customer c (ruled_sum takes d C) (takes v (request_in r))))
    (λ t. rw t (omega arith))

-- what a ruling adds to a customer's sum is within the balance
affords : (ρ : Rules) (x f n : ℕ) (v : Verdict) (r : List ℕ) (C : List Commit) → Good ρ (Ruled f n v r ∷ C) → enrolled f C ≡ Some x → adds v (request_in r) ≤ balance x C
unfolding adds
affords ρ x f n v r C g e = ⊎_elim
    (λ (h : adds v (request_in r) ≡ 0). omega arith)
    (λ (h : ((is_granted v && same_kind (request_in r).kind Reset) ≡ true) × (adds v (request_in r) ≡ (request_in r).amount)).
    let p = and_parts (is_granted v) (same_kind (request_in r).kind Reset) h.0 in
    let it = reset_is ρ f n v r C g p.0 p.1 in
    let same : it.0 ≡ x = same_Some _ _ (sym it.1 ∙ e) in
    let le = subst (λ z. (request_in r).amount ≤ balance z C) same it.2 in
    let is = h.1 in
    omega arith)
    (when (is_granted v && same_kind (request_in r).kind Reset) (request_in r).amount)

within_plain : (s : Bool) (a b d t : ℕ) → b ≤ d + t → (s ≡ true → a ≤ (d + t) - b) → b + cond s a 0 ≤ d + t
within_plain true a b d t h f = let le = f refl in omega arith
within_plain false a b d t h f = omega arith

within : (ρ : Rules) (c f n : ℕ) (v : Verdict) (r : List ℕ) (C : List Commit) → Good ρ (Ruled f n v r ∷ C) → customer_sum adds c C ≤ deposits c C + customer_sum takes c C → (o : Option ℕ) → enrolled f C ≡ o → customer_sum adds c C + cond (is_some_at o c) (adds v (request_in r)) 0 ≤ deposits c C + customer_sum takes c C
within ρ c f n v r C g ih None e = omega arith
within ρ c f n v r C g ih (Some x) e = within_plain (x == c) (adds v (request_in r)) (customer_sum adds c C) (deposits c C) (customer_sum takes c C) ih
    (λ t. subst (λ z. adds v (request_in r) ≤ balance z C) (eqb-true x c t) (affords ρ x f n v r C g e))

pub solvent : (ρ : Rules) (c : ℕ) (C : List Commit) → Good ρ C → customer_sum adds c C ≤ deposits c C + customer_sum takes c C
unfolding customer_sum
solvent ρ c [] g = omega arith
solvent ρ c (Ruled f n v r ∷ C) g =
    let a = sum_more (device_share adds c (Ruled f n v r ∷ C)) (device_share adds c C) (at f (cond (is_some_at (enrolled f C) c) (adds v (request_in r)) 0)) device_numbers (adds_part ρ c f n v r C g) in
    let o = once f (cond (is_some_at (enrolled f C) c) (adds v (request_in r)) 0) 0 device_numbers devices in
    let t = sum_le (device_share takes c C) (device_share takes c (Ruled f n v r ∷ C)) device_numbers (takes_part ρ c f n v r C) in
    let w = within ρ c f n v r C g (solvent ρ c C g.1) (enrolled f C) refl in
    omega arith
solvent ρ c (Deposited e m a ∷ C) g =
    let s = solvent ρ c C g.1 in
    either e c (λ t y. rw t (omega arith)) (λ t. rw t s)
solvent ρ c (_ ∷ C) g = solvent ρ c C g.1
