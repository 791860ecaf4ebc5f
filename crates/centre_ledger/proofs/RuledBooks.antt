-- The row with a ruling has a customer who can pay.
use Rattle.std.proofs.Common.{◌≡◌, ℕ, ◌+◌, ◌≤◌, Bool, true, false, List, Option, Some, None, cond, refl, sym, ap, subst, ⊎_elim, true≢false, arith}
use Rattle.std.specs.Prelude.{◌&&◌, not, IsSome}
use Rattle.std.proofs.lemmas.Bool.{cases_Bool, eqb-true, and_parts}
use Rattle.bench_base.specs.declared.{words.Kind.Kind, words.Kind.TheVariants.Enrol, words.Kind.TheVariants.Reset, words.Kind.TheVariants.Audit, words.Kind.TheVariants.Refund, words.Kind.TheVariants.Withdraw, words.Verdict.Verdict}
use Rattle.bench_base.specs.Kinds.{same_kind, is_granted}
use Rattle.psd_wire.specs.declared.message.Request.{Request}
use Rattle.ledger_terms.specs.Sums.{adds, takes}
use Rattle.ledger_terms.specs.Centres.{is_some_at}
use Rattle.ledger_terms.specs.Rulings.{own_customer, is_enrolled}
use Rattle.centre_ledger.specs.declared.{rows.DeviceRow.DeviceRow, rows.Enrolment.Enrolment, rows.Enrolment.TheVariants.Registered, rows.Enrolment.TheVariants.Enrolled, rows.Enrolment.TheVariants.Withdrawn}
use Rattle.centre_ledger.specs.Rows.{account, customer_of, enrolled_in, withdrawn_of, enrolment_after, buys_in, returns_in}
use Rattle.centre_ledger.specs.Soundness.{IsSoundDevice}
use Rattle.centre_ledger.specs.Books.{Books, device_at, customer_at, left_in, AreSound}
use Rattle.centre_ledger.specs.Acts.{in_books, payer_in, own_left, verdict_in, ruled_in}
use Rattle.centre_ledger.proofs.Keeping.{customer_after}
use Rattle.centre_ledger.proofs.Passed.{WasGranted, granted}
use Rattle.centre_ledger.proofs.Payers.{found_device, found_owned}
use Rattle.centre_ledger.proofs.Puts.{CanPay}
use Rattle.bench_base.proofs.Facts.{no_reset}

was_granted : (b : Books) (r : DeviceRow) (q : Request) → is_granted (verdict_in (in_books b) r q) ≡ true → WasGranted (account r (payer_in (in_books b) r q) (own_left (in_books b) r)) q
was_granted b r q h = granted (account r (payer_in (in_books b) r q) (own_left (in_books b) r)) q h

-- the customer that a granted enrolment names is open
named_open : (b : Books) (r : DeviceRow) (q : Request) → is_granted (verdict_in (in_books b) r q) ≡ true → same_kind q.kind Enrol ≡ true → IsSome (customer_at b q.customer)
named_open b r q g enrol =
    let open_so : IsSome (payer_in (in_books b) r q) = (was_granted b r q g).opened enrol in
    subst (λ w. IsSome (customer_at b w)) (ap (λ t. cond t q.customer (own_customer (enrolled_in r))) enrol) open_so

-- a reset is no enrolment
pub no_enrol : (k : Kind) → same_kind k Reset ≡ true → not (same_kind k Enrol) ≡ true
unfolding same_kind
no_enrol Enrol h = absurd (true≢false (sym h))
no_enrol Reset h = refl
no_enrol Audit h = refl
no_enrol Refund h = refl
no_enrol Withdraw h = refl

-- what a granted reset adds is left to the device's own customer
adds_most : (b : Books) (r : DeviceRow) (q : Request) → adds (verdict_in (in_books b) r q) q ≤ own_left (in_books b) r
unfolding adds
adds_most b r q = ⊎_elim
    (λ (t : (is_granted (verdict_in (in_books b) r q) && same_kind q.kind Reset) ≡ true).
    let parts = and_parts (is_granted (verdict_in (in_books b) r q)) (same_kind q.kind Reset) t in
    rw t ((was_granted b r q parts.0).funded parts.1))
    (λ (t : (is_granted (verdict_in (in_books b) r q) && same_kind q.kind Reset) ≡ false). rw t (omega arith))
    (cases_Bool (is_granted (verdict_in (in_books b) r q) && same_kind q.kind Reset))

-- a device bought nothing before its enrolment is granted, nor with it
record Fresh (r : DeviceRow) (v : Verdict) (q : Request) : Type 0 where
  bought : r.buys + adds v q ≡ 0
  returned : r.returns ≡ 0

fresh : (b : Books) (r : DeviceRow) (q : Request) → IsSoundDevice r → is_granted (verdict_in (in_books b) r q) ≡ true → same_kind q.kind Enrol ≡ true → Fresh r (verdict_in (in_books b) r q) q
unfolding adds
fresh b r q sound g enrol =
    let buys = sound.registered (never (enrolled_in r) ((was_granted b r q g).new enrol)) in
    let least = sound.returns_le in
    let none : same_kind q.kind Reset ≡ false = no_reset q.kind enrol in
    record { bought = rw (g, none) (omega arith); returned = omega arith }
  where
    never : (o : Option ℕ) → is_enrolled o ≡ false → o ≡ None
    never None h = refl
    never (Some w) h = absurd (true≢false h)

-- of a customer w: what the row bought and gave back, with its customer and without
none_of : (t s : Bool) (buys returns takes left had : ℕ) → buys ≡ 0 → returns ≡ 0 → cond t buys 0 + cond s returns 0 ≤ left + had + cond t (returns + takes) 0
none_of true true buys returns takes left had e f = omega arith
none_of true false buys returns takes left had e f = omega arith
none_of false true buys returns takes left had e f = omega arith
none_of false false buys returns takes left had e f = omega arith

own_of : (t : Bool) (buys adds returns takes left : ℕ) → (t ≡ true → adds ≤ left) → cond t (buys + adds) 0 + cond t returns 0 ≤ left + cond t buys 0 + cond t (returns + takes) 0
own_of true buys adds returns takes left most = let m = most refl in omega arith
own_of false buys adds returns takes left most = omega arith

-- without a granted enrolment the customer stays
same_customer : (k : Kind) (g : Bool) (e : Enrolment) (c w : ℕ) → (g && same_kind k Enrol) ≡ false
    → is_some_at (customer_of (cond (g && same_kind k Enrol) (Enrolled c) (cond (g && same_kind k Withdraw) (withdrawn_of e) e))) w ≡ is_some_at (customer_of e) w
same_customer k g e c w none = rw none (by (g && same_kind k Withdraw) e)
  where
    by : (t : Bool) (x : Enrolment) → is_some_at (customer_of (cond t (withdrawn_of x) x)) w ≡ is_some_at (customer_of x) w
    by false x = refl
    by true Registered = refl
    by true (Enrolled v) = refl
    by true (Withdrawn v) = refl

-- a device that is under the customer has no other
owns : (o : Option ℕ) (w : ℕ) → is_some_at o w ≡ true → own_customer o ≡ w
owns None w h = absurd (true≢false (sym h))
owns (Some v) w h = eqb-true v w h

pub ruled_can_pay : (b : Books) (r : DeviceRow) (q : Request) (bytes : List ℕ) → AreSound b → device_at b r.device ≡ Some r → CanPay b (ruled_in (in_books b) r q bytes)
ruled_can_pay b r q bytes sound at = record {
  owned = customer_after (λ w. IsSome (customer_at b w)) q.kind (is_granted v) r.enrolment q.customer (found_owned b r.device r sound at) (named_open b r q);
  paid = λ w c is. subst (λ (o : Option DeviceRow). buys_in w (Some (ruled_in (in_books b) r q bytes)) + returns_in w o ≤ left_in b w + buys_in w o + returns_in w (Some (ruled_in (in_books b) r q bytes))) (sym at) (paid w);
}
  where
    v : Verdict
    v = verdict_in (in_books b) r q

    sound_r : IsSoundDevice r
    sound_r = (found_device b r.device r sound at).0.sound

    paid : (w : ℕ) → buys_in w (Some (ruled_in (in_books b) r q bytes)) + returns_in w (Some r) ≤ left_in b w + buys_in w (Some r) + returns_in w (Some (ruled_in (in_books b) r q bytes))
    paid w = ⊎_elim
        (λ (t : (is_granted (verdict_in (in_books b) r q) && same_kind q.kind Enrol) ≡ true).
        let parts = and_parts (is_granted (verdict_in (in_books b) r q)) (same_kind q.kind Enrol) t in
        let none = fresh b r q sound_r parts.0 parts.1 in
        none_of (is_some_at (customer_of (enrolment_after r.enrolment v q)) w) (is_some_at (enrolled_in r) w) (r.buys + adds (verdict_in (in_books b) r q) q) r.returns (takes (verdict_in (in_books b) r q) q) (left_in b w) (buys_in w (Some r)) none.bought none.returned)
        (λ (t : (is_granted (verdict_in (in_books b) r q) && same_kind q.kind Enrol) ≡ false).
        rw (same_customer q.kind (is_granted v) r.enrolment q.customer w t) (own_of (is_some_at (enrolled_in r) w) r.buys (adds v q) r.returns (takes v q) (left_in b w)
        (λ e. subst (λ u. adds v q ≤ left_in b u) (owns (enrolled_in r) w e) (adds_most b r q))))
        (cases_Bool (is_granted (verdict_in (in_books b) r q) && same_kind q.kind Enrol))
