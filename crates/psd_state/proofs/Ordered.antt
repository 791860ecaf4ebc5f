-- What the order of a device's commits gives.
use Rattle.std.proofs.Common.{◌≡◌, ℕ, pos, ◌+◌, ◌<◌, ◌+ℤ◌, max, refl, arith, Option, Some, None, IsSome, Bool, true, false, cond, List, [], ◌∷◌, ap, sym, ◌∙◌, subst, eq-eqb, ne_eqb, ◌==◌, if◌then◌else◌, ◌&&◌, ◌||◌, true≢false, ◌⊎◌, inl, inr}
use Rattle.std.proofs.lemmas.Bool.{false_from_ne_true}
use Rattle.std.proofs.lemmas.Option.{same_Some, none-some}
use Rattle.bench_base.specs.declared.{words.Kind.Kind, words.Kind.TheVariants.Enrol, words.Verdict.Verdict, ledger.Commit.Commit, ledger.Commit.TheVariants.Asked, ledger.Commit.TheVariants.Applied, ledger.Commit.TheVariants.Registered, ledger.Commit.TheVariants.Ruled}
use Rattle.bench_base.specs.Rows.{first_of}
use Rattle.bench_base.specs.Kinds.{is_granted, is_dated, same_kind}
use Rattle.bench_base.proofs.Facts.{not_none, either}
use Rattle.psd_wire.specs.declared.message.ReplyMsg.{ReplyMsg}
use Rattle.ledger_terms.specs.Requests.{request_in, request_of, note_of}
use Rattle.ledger_terms.specs.Devices.{asked, number, pending, unless_applied, applied_of, applied_kind}
use Rattle.ledger_terms.specs.Centres.{registered, origin_in, ruled}
use Rattle.ledger_terms.specs.InFlight.{ruling_of}
use Rattle.ledger_terms.specs.Rulings.{reply_to, ruled_reply}
use Rattle.psd_state.specs.Records.{asks, InOrder}

-- the last that was asked is the count of what was asked
pub asked_asks : (d : ℕ) (C : List Commit) → InOrder d C → asked d C ≡ asks d C
asked_asks d [] o = refl
asked_asks d (Asked e n note ∷ C) o =
    either e d (λ own is. let f = o.0 is in rw own f.1) (λ no. rw no (asked_asks d C o.1))
asked_asks d (_ ∷ C) o = asked_asks d C o.1

-- nothing was asked, or applied, beyond that count
pub note_none : (d n : ℕ) (C : List Commit) → InOrder d C → asks d C < n → note_of d n C ≡ None
note_none d n [] o l = refl
note_none d n (Asked e k note ∷ C) o l =
    either e d
    (λ own is. let f = o.0 is in
    let less : asks d C + 1 < n = subst (λ b. (if b then asks d C + 1 else asks d C) < n) own l in
    let apart : (k == n) ≡ false = ne_eqb k n (λ same. absurd (omega (arith, same, f.1, less))) in
    rw (own, apart) (note_none d n C o.1 (omega (arith, less))))
    (λ no. rw no (note_none d n C o.1 (subst (λ b. (if b then asks d C + 1 else asks d C) < n) no l)))
note_none d n (_ ∷ C) o l = note_none d n C o.1 l

pub applied_none : (d n : ℕ) (C : List Commit) → InOrder d C → asks d C < n → applied_of d n C ≡ None
applied_none d n [] o l = refl
applied_none d n (Asked e k note ∷ C) o l =
    either e d
    (λ own is. let less : asks d C + 1 < n = subst (λ b. (if b then asks d C + 1 else asks d C) < n) own l in applied_none d n C o.1 (omega (arith, less)))
    (λ no. applied_none d n C o.1 (subst (λ b. (if b then asks d C + 1 else asks d C) < n) no l))
applied_none d n (Applied e k v ∷ C) o l =
    either e d
    (λ own is. let f = o.0 is in
    let apart : (k == n) ≡ false = ne_eqb k n (λ same. absurd (omega (arith, same, f.1, asked_asks d C o.1, l))) in
    rw (own, apart) (applied_none d n C o.1 l))
    (λ no. rw no (applied_none d n C o.1 l))
applied_none d n (_ ∷ C) o l = applied_none d n C o.1 l

-- what is still waiting after an Applied is another transaction
still_waiting : (k : ℕ) (w : Option (ℕ × List ℕ)) (p : ℕ × List ℕ) → unless_applied k w ≡ Some p → (w ≡ Some p) × ((p.0 == k) ≡ false)
still_waiting k None p h = absurd (none-some _ h)
still_waiting k (Some x) p h =
    either x.0 k
    (λ own is. absurd (none-some _ (sym (ap (λ b. cond b None (Some x)) own) ∙ h)))
    (λ no. let same : x ≡ p = same_Some _ _ (sym (ap (λ b. cond b None (Some x)) no) ∙ h) in (ap (λ y. Some y) same, subst (λ (y : ℕ × List ℕ). (y.0 == k) ≡ false) same no))

-- where nothing waits, all that was asked was applied; and what waits is the last that was asked
abbrev Last : ℕ → List Commit → Type 0
Last d C = (pending d C ≡ None → number d C ≡ asks d C) × ((n : ℕ) (note : List ℕ) → pending d C ≡ Some (n, note) → n ≡ asks d C)

abbrev asked_last : ℕ → List Commit → ℕ → List ℕ → Bool → Type 0
asked_last d C k note b =
    ((if b then Some (k, note) else pending d C) ≡ None → number d C ≡ (if b then asks d C + 1 else asks d C))
    × ((n : ℕ) (x : List ℕ) → (if b then Some (k, note) else pending d C) ≡ Some (n, x) → n ≡ (if b then asks d C + 1 else asks d C))

abbrev applied_last : ℕ → List Commit → ℕ → Bool → Type 0
applied_last d C k b =
    ((if b then unless_applied k (pending d C) else pending d C) ≡ None → (if b then k else number d C) ≡ asks d C)
    × ((n : ℕ) (x : List ℕ) → (if b then unless_applied k (pending d C) else pending d C) ≡ Some (n, x) → n ≡ asks d C)

first_is : {A : Type 0} {k n : ℕ} {x y : A} → ◌≡◌ {A = Option (ℕ × A)} (Some (k, x)) (Some (n, y)) → k ≡ n
first_is {A = A} h = ap (λ (p : ℕ × A). p.0) (same_Some _ _ h)

second_is : {A : Type 0} {k n : ℕ} {x y : A} → ◌≡◌ {A = Option (ℕ × A)} (Some (k, x)) (Some (n, y)) → x ≡ y
second_is {A = A} h = ap (λ (p : ℕ × A). p.1) (same_Some _ _ h)

pub last : (d : ℕ) (C : List Commit) → InOrder d C → Last d C
last d [] o = (λ h. refl, λ n note h. absurd (none-some _ h))
last d (Asked e k note ∷ C) o =
    either e d
    (λ own is. let f = o.0 is in subst (asked_last d C k note) (sym own) (λ h. absurd (none-some _ (sym h)), λ n x h. sym (first_is h) ∙ f.1))
    (λ no. subst (asked_last d C k note) (sym no) (last d C o.1))
last d (Applied e k v ∷ C) o =
    either e d
    (λ own is. let f = o.0 is in
    let before = last d C o.1 in
    subst (applied_last d C k) (sym own) (λ h. f.1 ∙ asked_asks d C o.1, λ n x h. let w = still_waiting k (pending d C) (n, x) h in before.1 n x w.0))
    (λ no. subst (applied_last d C k) (sym no) (last d C o.1))
last d (_ ∷ C) o = last d C o.1

-- the note of what waits is the first with its number
pub pending_note : (d n : ℕ) (note : List ℕ) (C : List Commit) → InOrder d C → pending d C ≡ Some (n, note) → note_of d n C ≡ Some note
pending_note d n note [] o h = absurd (none-some _ h)
pending_note d n note (Asked e k x ∷ C) o h =
    either e d
    (λ own is. let f = o.0 is in
    let same : Some (k, x) ≡ Some (n, note) = sym (ap (λ b. cond b (Some (k, x)) (pending d C)) own) ∙ h in
    let number : (k == n) ≡ true = eq-eqb k n (first_is same) in
    let new : note_of d n C ≡ None = note_none d n C o.1 (omega (arith, f.1, first_is same)) in
    rw (own, number, new) (ap (λ y. Some y) (second_is same)))
    (λ no. rw no (pending_note d n note C o.1 (sym (ap (λ b. cond b (Some (k, x)) (pending d C)) no) ∙ h)))
pending_note d n note (Applied e k v ∷ C) o h =
    either e d
    (λ own is. let w = still_waiting k (pending d C) (n, note) (sym (ap (λ b. cond b (unless_applied k (pending d C)) (pending d C)) own) ∙ h) in pending_note d n note C o.1 w.0)
    (λ no. pending_note d n note C o.1 (sym (ap (λ b. cond b (unless_applied k (pending d C)) (pending d C)) no) ∙ h))
pending_note d n note (_ ∷ C) o h = pending_note d n note C o.1 h

-- what waits was not applied
pub pending_unapplied : (d n : ℕ) (note : List ℕ) (C : List Commit) → InOrder d C → pending d C ≡ Some (n, note) → applied_of d n C ≡ None
pending_unapplied d n note [] o h = refl
pending_unapplied d n note (Asked e k x ∷ C) o h =
    either e d
    (λ own is. let f = o.0 is in
    let same : Some (k, x) ≡ Some (n, note) = sym (ap (λ b. cond b (Some (k, x)) (pending d C)) own) ∙ h in
    applied_none d n C o.1 (omega (arith, f.1, first_is same)))
    (λ no. pending_unapplied d n note C o.1 (sym (ap (λ b. cond b (Some (k, x)) (pending d C)) no) ∙ h))
pending_unapplied d n note (Applied e k v ∷ C) o h =
    either e d
    (λ own is. let w = still_waiting k (pending d C) (n, note) (sym (ap (λ b. cond b (unless_applied k (pending d C)) (pending d C)) own) ∙ h) in
    let apart : (k == n) ≡ false = ne_eqb k n (λ same. absurd (true≢false (sym (eq-eqb n k (sym same)) ∙ w.1))) in
    rw (own, apart) (pending_unapplied d n note C o.1 w.0))
    (λ no. rw no (pending_unapplied d n note C o.1 (sym (ap (λ b. cond b (unless_applied k (pending d C)) (pending d C)) no) ∙ h)))
pending_unapplied d n note (_ ∷ C) o h = pending_unapplied d n note C o.1 h

-- == rulings ==

-- a device that was ruled on is registered
pub ruled_registered : (d n : ℕ) (x : Verdict × List ℕ) (C : List Commit) → InOrder d C → ruling_of d n C ≡ Some x → IsSome (registered d C)
ruled_registered d n x [] o h = absurd (none-some _ h)
ruled_registered d n x (Ruled e k v note ∷ C) o h =
    either e d
    (λ own is. let f = o.0 is in f.0)
    (λ no. ruled_registered d n x C o.1 (sym (ap (λ b. cond (b && (k == n)) (first_of (ruling_of d n C) (Some (v, note))) (ruling_of d n C)) no) ∙ h))
ruled_registered d n x (Registered e y key ∷ C) o h =
    either e d (λ own is. rw own refl) (λ no. rw no (ruled_registered d n x C o.1 h))
ruled_registered d n x (_ ∷ C) o h = ruled_registered d n x C o.1 h

-- a device that applied a transaction is registered, and has a key
pub applied_registered : (d : ℕ) (k : Kind) (C : List Commit) → InOrder d C → applied_kind k d C ≡ true → IsSome (registered d C)
applied_registered d k [] o h = absurd (true≢false (sym h))
applied_registered d k (Applied e n v ∷ C) o h =
    either e d
    (λ own is. let f = o.0 is in ruled_registered d n (v, f.3.note) C o.1 f.3.ruling)
    (λ no. applied_registered d k C o.1 (sym (ap (λ b. cond b ((is_granted v && same_kind (request_of d n C).kind k) || applied_kind k d C) (applied_kind k d C)) no) ∙ h))
applied_registered d k (Registered e y key ∷ C) o h =
    either e d (λ own is. rw own refl) (λ no. rw no (applied_registered d k C o.1 h))
applied_registered d k (_ ∷ C) o h = applied_registered d k C o.1 h

-- no number above the greatest was ruled
ruling_none : (d n : ℕ) (C : List Commit) → ruled d C < n → (ruling_of d n C ≡ None) × (ruled_reply d n C ≡ None)
ruling_none d n [] l = (refl, refl)
ruling_none d n (Ruled e k v note ∷ C) l =
    either e d
    (λ own is.
    let less : max k (ruled d C) < n = subst (λ b. (if b then max k (ruled d C) else ruled d C) < n) own l in
    let apart : (k == n) ≡ false = ne_eqb k n (λ same. absurd (omega (arith, same, less))) in
    let before = ruling_none d n C (omega (arith, less)) in
    (rw (own, apart) before.0, rw (own, apart) before.1))
    (λ no. let before = ruling_none d n C (subst (λ b. (if b then max k (ruled d C) else ruled d C) < n) no l) in (rw no before.0, rw no before.1))
ruling_none d n (_ ∷ C) l = ruling_none d n C l

-- the Reply has the registered origin, and the deadline that the Request's day sets
abbrev pub IsReplyTo : ℕ → List ℕ → Option (ℕ × List ℕ) → ReplyMsg → Type 0
IsReplyTo d note home r =
    ((request_in note).device ≡ d → r.origin ≡ origin_in home)
    × (is_dated r.verdict (request_in note).kind ≡ true → r.deadline ≡ (request_in note).day +ℤ pos 92)

new_reply : (d : ℕ) (note : List ℕ) (C : List Commit) → IsReplyTo d note (registered d C) (reply_to C (request_in note))
unfolding reply_to
new_reply d note C = (
  λ own. ap (λ e. origin_in (registered e C)) own,
  λ dated. ap (λ b. cond b ((request_in note).day +ℤ pos 92) (pos 0)) dated,
)

pub reply_of : (d n : ℕ) (v : Verdict) (note : List ℕ) (r : ReplyMsg) (C : List Commit) → InOrder d C → ruling_of d n C ≡ Some (v, note) → ruled_reply d n C ≡ Some r
    → IsReplyTo d note (registered d C) r
reply_of d n v note r [] o h g = absurd (none-some _ h)
reply_of d n v note r (Ruled e k w x ∷ C) o h g =
    let here : Option (Verdict × List ℕ) = first_of (ruling_of d n C) (Some (w, x)) in
    let reply : Option ReplyMsg = first_of (ruled_reply d n C) (Some (reply_to C (request_in x))) in
    either e d
    (λ own is. let f = o.0 is in
    either k n
    (λ number same.
    let before = ruling_none d n C (omega (arith, f.1, same)) in
    let ruling : Some (w, x) ≡ Some (v, note) = sym (ap (λ q. first_of q (Some (w, x))) before.0) ∙ sym (ap (λ b. cond (b && (k == n)) here (ruling_of d n C)) own ∙ ap (λ b. cond b here (ruling_of d n C)) number) ∙ h in
    let made : Some (reply_to C (request_in x)) ≡ Some r =
    sym (ap (λ q. first_of q (Some (reply_to C (request_in x)))) before.1) ∙ sym (ap (λ b. cond (b && (k == n)) reply (ruled_reply d n C)) own ∙ ap (λ b. cond b reply (ruled_reply d n C)) number) ∙ g in
    let note_is : x ≡ note = ap (λ (p : Verdict × List ℕ). p.1) (same_Some _ _ ruling) in
    subst (IsReplyTo d note (registered d C)) (ap (λ y. reply_to C (request_in y)) (sym note_is) ∙ same_Some _ _ made) (new_reply d note C))
    (λ apart.
    let ruling : ruling_of d n C ≡ Some (v, note) = sym (ap (λ b. cond (b && (k == n)) here (ruling_of d n C)) own ∙ ap (λ b. cond b here (ruling_of d n C)) apart) ∙ h in
    let made : ruled_reply d n C ≡ Some r = sym (ap (λ b. cond (b && (k == n)) reply (ruled_reply d n C)) own ∙ ap (λ b. cond b reply (ruled_reply d n C)) apart) ∙ g in
    reply_of d n v note r C o.1 ruling made))
    (λ no.
    let ruling : ruling_of d n C ≡ Some (v, note) = sym (ap (λ b. cond (b && (k == n)) here (ruling_of d n C)) no) ∙ h in
    let made : ruled_reply d n C ≡ Some r = sym (ap (λ b. cond (b && (k == n)) reply (ruled_reply d n C)) no) ∙ g in
    reply_of d n v note r C o.1 ruling made)
reply_of d n v note r (Registered e y key ∷ C) o h g =
    either e d
    (λ own is. absurd (not_none (registered d C) (ruled_registered d n (v, note) C o.1 h) (o.0 is)))
    (λ no. rw no (reply_of d n v note r C o.1 h g))
reply_of d n v note r (_ ∷ C) o h g = reply_of d n v note r C o.1 h g

-- a device that is registered twice, or after its enrolment, is not in order
pub quiet : (d : ℕ) (c : Commit) (C : List Commit) → InOrder d (c ∷ C) → (registered d (c ∷ C) ≡ registered d C) ⊎ (applied_kind Enrol d C ≡ false)
quiet d (Registered e y key) C o =
    either e d
    (λ own is. inr (false_from_ne_true (applied_kind Enrol d C) (λ yes. not_none (registered d C) (applied_registered d Enrol C o.1 yes) (o.0 is))))
    (λ no. inl (rw no refl))
quiet d _ C o = inl refl
