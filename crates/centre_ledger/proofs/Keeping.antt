-- The row with a ruling is sound where the row before it was.
use Rattle.std.proofs.Common.{◌≡◌, ℕ, ℤ, pos, ◌+ℤ◌, ◌+◌, ◌^◌, ◌<◌, ◌≤◌, Bool, true, false, List, [], ◌∷◌, ◌++◌, Option, Some, None, cond, refl, sym, ap, subst, ◌∙◌, true≢false, ⊎_elim, arith, FitsSigned, Fits as Fits32, lit<}
use Rattle.std.specs.Prelude.{IfSome, min, ◌==◌, ◌&&◌, ◌||◌, not, nat_lt, is_some}
use Rattle.std.proofs.lemmas.Option.{none-some}
use Rattle.std.specs.Int.{w32, cast_unsigned}
use Rattle.std.proofs.Math.Nat.{min-le_left, min-le_right}
use Rattle.std.proofs.lemmas.Int.{ints}
use Rattle.std.proofs.Math.Facts.{Fits-of_z}
use Rattle.std.proofs.lemmas.Bool.{cases_Bool, eqb-true, ltb-true, ltb-false, not-false, and_parts}
use Rattle.hmac_core.specs.Hmac.{hmac}
use Rattle.bench_base.specs.declared.{words.Kind.Kind, words.Kind.TheVariants.Enrol, words.Kind.TheVariants.Reset, words.Kind.TheVariants.Audit, words.Kind.TheVariants.Refund, words.Kind.TheVariants.Withdraw, words.Verdict.Verdict, words.Verdict.TheVariants.Granted, words.Verdict.TheVariants.NotEnrolled, words.Verdict.TheVariants.EnrolledAlready, words.Verdict.TheVariants.NoCustomer, words.Verdict.TheVariants.Suspended, words.Verdict.TheVariants.NoFunds, words.Verdict.TheVariants.Imbalance}
use Rattle.bench_base.specs.Kinds.{same_kind, empties, is_granted, is_dated}
use Rattle.bench_base.specs.Ranges.{IsWord, IsDay, IsCustomer}
use Rattle.bench_base.specs.Rows.{any_true}
use Rattle.bench_base.proofs.Facts.{and_false}
use Rattle.bench_base.proofs.Rows.{first_that}
use Rattle.psd_wire.specs.declared.message.Request.{Request}
use Rattle.psd_wire.specs.declared.message.Message.TheVariants as m
use Rattle.psd_wire.specs.Grammar.{IsWhole, HasCode, ReadsAs, body, spell, sum_size}
use Rattle.bench_base.specs.Table.{Four, Eight, IsNumber}
use Rattle.ledger_terms.specs.Sums.{adds, takes}
use Rattle.ledger_terms.specs.Rulings.{Account, verdict_by, verdict_rows, own_customer, has_left, out_of_balance, is_past_limits, buys_limit, written_amount}
use Rattle.psd_wire.proofs.Readings.{cut, kind_byte, verdict_byte}
use Rattle.centre_ledger.specs.declared.{rows.DeviceRow.DeviceRow, rows.CustomerRow.CustomerRow, rows.Enrolment.Enrolment, rows.Enrolment.TheVariants.Registered, rows.Enrolment.TheVariants.Enrolled, rows.Enrolment.TheVariants.Withdrawn}
use Rattle.centre_ledger.specs.Soundness.{IsSoundDevice, IsPayer, IsVerdict}
use Rattle.centre_ledger.proofs.Passed.{granted}
use Rattle.centre_ledger.specs.Rows.{customer_of, is_withdrawn, withdrawn_of, enrolled_in, account, amount_shown, deadline_after, reply_by, enrolment_after, NamesCustomer, ruled_row}

-- a verdict of `NoFunds` shows a balance below the amount
short_of : (a : Account) (q : Request) → (verdict_by a q).0 ≡ NoFunds → a.balance < q.amount
unfolding verdict_by
short_of a q = first_that (λ (x : Verdict × ℕ). x.0 ≡ NoFunds → a.balance < q.amount) (verdict_rows a q) (Granted, q.amount)
    ((λ _ k. absurd (cc)), ((λ _ k. absurd (cc)), ((λ _ k. absurd (cc)), ((λ _ k. absurd (cc)), ((λ _ k. absurd (cc)), ((λ t _. ltb-true a.balance q.amount (and_parts (same_kind q.kind Reset) (nat_lt a.balance q.amount) t).1), tt))))))
    (λ _ k. absurd (cc))

-- == the Reply ==

amount_long : (v : Verdict) (asked bought balance : ℕ) → asked < 2 ^ 64 → bought < 2 ^ 64 → (v ≡ NoFunds → balance < asked) → amount_shown v asked bought balance < 2 ^ 64
amount_long Granted asked bought balance w b f = w
amount_long Imbalance asked bought balance w b f = b
amount_long NoFunds asked bought balance w b f = let less = f refl in omega arith
amount_long NotEnrolled asked bought balance w b f = omega arith
amount_long EnrolledAlready asked bought balance w b f = omega arith
amount_long NoCustomer asked bought balance w b f = omega arith
amount_long Suspended asked bought balance w b f = omega arith

-- what is written of an amount fits the version's field
amount_fits : (version amount : ℕ) → amount < 2 ^ 64 → IsNumber (sum_size version) (written_amount version amount)
amount_fits version amount w = go (version == 1)
  where
    go : (b : Bool) → IsNumber (cond b Four Eight) (cond b (min amount 4294967295) amount)
    go true = omega (arith, min-le_right amount 4294967295)
    go false = w

written_le : (version amount : ℕ) → written_amount version amount ≤ amount
written_le version amount = go (version == 1)
  where
    go : (b : Bool) → cond b (min amount 4294967295) amount ≤ amount
    go true = min-le_left amount 4294967295
    go false = omega arith

-- what is asked has eight bytes at most
asked_long : (version amount : ℕ) → IsNumber (sum_size version) amount → amount < 2 ^ 64
asked_long version amount h = go (version == 1) h
  where
    go : (b : Bool) → IsNumber (cond b Four Eight) amount → amount < 2 ^ 64
    go true k = omega (arith, k)
    go false k = k

amount_granted : (v : Verdict) (asked bought balance : ℕ) → is_granted v ≡ true → amount_shown v asked bought balance ≡ asked
amount_granted Granted asked bought balance h = refl
amount_granted NotEnrolled asked bought balance h = absurd (true≢false (sym h))
amount_granted EnrolledAlready asked bought balance h = absurd (true≢false (sym h))
amount_granted NoCustomer asked bought balance h = absurd (true≢false (sym h))
amount_granted Suspended asked bought balance h = absurd (true≢false (sym h))
amount_granted NoFunds asked bought balance h = absurd (true≢false (sym h))
amount_granted Imbalance asked bought balance h = absurd (true≢false (sym h))

deadline_fits : (t : Bool) (z : ℤ) → IsDay z → FitsSigned w32 (cond t (z +ℤ pos 92) (pos 0))
deadline_fits true z h = search (arith, ints, h.0, h.1)
deadline_fits false z h = search (arith, ints)

pub reply_whole : (r : DeviceRow) (v : Verdict) (balance : ℕ) (q : Request) → IsSoundDevice r → IsWord r.origin → IsWhole (m.Request q) → IsVerdict r balance q v → IsWhole (m.Reply (reply_by r v balance q))
reply_whole r v balance q sound origin w (o, paid, says) =
    let signed : FitsSigned w32 (deadline_after v q) = deadline_fits (is_dated v q.kind) q.day w.2 in
    let small : Fits32 w32 (cast_unsigned w32 (deadline_after v q)) = Fits-of_z signed in
    let asked = asked_long q.version q.amount w.1.1.1.1.1.1.1.0 in
    let amount = amount_fits q.version _ (amount_long v q.amount r.buys balance asked sound.limit (λ e. short_of (account r o balance) q (sym says ∙ e))) in
    (w.0, (omega (arith, w.0.1), (lit< tt, (w.1.1.1.0, (w.1.1.1.1.0, (kind_byte q.kind, (verdict_byte v, (amount, (omega (arith, small), (origin, tt))))))))), signed)

-- == the sums ==

none_true : (b : Bool) (bs : List Bool) → any_true (b ∷ bs) ≡ false → (b ≡ false) × (any_true bs ≡ false)
none_true true bs h = absurd (true≢false h)
none_true false bs h = (refl, h)

none_of_3 : (a b c : Bool) → any_true (a ∷ b ∷ c ∷ []) ≡ false → c ≡ false
none_of_3 a b c h = (none_true c [] (none_true b (c ∷ []) (none_true a (b ∷ c ∷ []) h).1).1).0

none_of_5 : (a b c d e : Bool) → any_true (a ∷ b ∷ c ∷ d ∷ e ∷ []) ≡ false → (a ≡ false) × (b ≡ false) × (c ≡ false) × (e ≡ false)
none_of_5 a b c d e h =
    let first = none_true a (b ∷ c ∷ d ∷ e ∷ []) h in
    let second = none_true b (c ∷ d ∷ e ∷ []) first.1 in
    let third = none_true c (d ∷ e ∷ []) second.1 in
    let fourth = none_true d (e ∷ []) third.1 in
    (first.0, second.0, third.0, (none_true e [] fourth.1).0)

record Agrees (q : Request) (b t : ℕ) : Type 0 where
  bought : q.ascending + q.descending + q.refunded ≡ b
  returned : q.refunded ≡ t
  emptied : empties q.kind ≡ true → q.amount ≡ q.descending
  limited : same_kind q.kind Reset ≡ true → is_past_limits q.version b q.amount ≡ false

agrees : (q : Request) (b t : ℕ) → out_of_balance q b t ≡ false → Agrees q b t
agrees q b t h =
    let all = none_of_5 (not (q.ascending + q.descending + q.refunded == b)) (not (q.refunded == t)) (empties q.kind && not (q.amount == q.descending)) ((same_kind q.kind Enrol || same_kind q.kind Audit) && not (q.amount == 0)) (same_kind q.kind Reset && is_past_limits q.version b q.amount) h in
    record {
      bought = eqb-true (q.ascending + q.descending + q.refunded) b (not-false _ all.0);
      returned = eqb-true q.refunded t (not-false _ all.1);
      emptied = λ e. eqb-true q.amount q.descending (not-false _ (and_false (empties q.kind) (not (q.amount == q.descending)) all.2 e));
      limited = and_false (same_kind q.kind Reset) (is_past_limits q.version b q.amount) all.3;
    }

limit_long : (version : ℕ) → buys_limit version < 2 ^ 64
limit_long version = go (version == 1) (version == 2)
  where
    go : (a b : Bool) → cond a 4294967295 (cond b 1000000000000 0) < 2 ^ 64
    go true b = omega arith
    go false true = omega arith
    go false false = omega arith

within : (version bought amount : ℕ) → is_past_limits version bought amount ≡ false → bought + amount < 2 ^ 64
within version bought amount h =
    let last = none_of_3 (amount == 0) (nat_lt 10000000 amount) (nat_lt (buys_limit version) (bought + amount)) h in
    omega (arith, ltb-false (buys_limit version) (bought + amount) last, limit_long version)

-- a reset empties nothing
pub reset_fills : (k : Kind) → same_kind k Reset ≡ true → empties k ≡ false
unfolding same_kind
reset_fills Enrol h = refl
reset_fills Reset h = refl
reset_fills Audit h = refl
reset_fills Refund h = absurd (true≢false (sym h))
reset_fills Withdraw h = absurd (true≢false (sym h))

pub record Sums (r : DeviceRow) (v : Verdict) (q : Request) : Type 0 where
  pub returns_le : r.returns + takes v q ≤ r.buys + adds v q
  pub limit : r.buys + adds v q < 2 ^ 64
  pub filled : is_granted v ≡ true → same_kind q.kind Reset ≡ true → (adds v q ≡ q.amount) × (takes v q ≡ 0)
  pub emptied : is_granted v ≡ true → empties q.kind ≡ true → takes v q ≡ q.amount

pub sums_after : (r : DeviceRow) (v : Verdict) (balance : ℕ) (q : Request) → IsSoundDevice r → IsVerdict r balance q v → Sums r v q
unfolding adds takes
sums_after r v balance q sound (o, paid, says) =
    let was = λ (h : is_granted v ≡ true). agrees q r.buys r.returns (granted (account r o balance) q (sym (ap is_granted says) ∙ h)).sums in
    let le = sound.returns_le in
    let limit = sound.limit in
    record {
      returns_le = ⊎_elim
          (λ (t : (is_granted v && empties q.kind) ≡ true).
          let parts = and_parts (is_granted v) (empties q.kind) t in
          let a = was parts.0 in
          let x = a.bought in
          let y = a.returned in
          let z = a.emptied parts.1 in
          rw t (omega arith))
          (λ (t : (is_granted v && empties q.kind) ≡ false). rw t (omega arith))
          (cases_Bool (is_granted v && empties q.kind));
      limit = ⊎_elim
          (λ (t : (is_granted v && same_kind q.kind Reset) ≡ true).
          let parts = and_parts (is_granted v) (same_kind q.kind Reset) t in
          let most = within q.version r.buys q.amount ((was parts.0).limited parts.1) in
          rw t most)
          (λ (t : (is_granted v && same_kind q.kind Reset) ≡ false). rw t (omega arith))
          (cases_Bool (is_granted v && same_kind q.kind Reset));
      filled = λ g k. let e = reset_fills q.kind k in (rw g (rw k refl), rw g (rw e refl));
      emptied = λ g k. rw g (rw k refl);
    }

-- == the enrolment ==

-- a device that has not left was enrolled
left_of : (e : Enrolment) → has_left (customer_of e) (is_withdrawn e) ≡ false → customer_of e ≡ None → ⊥
left_of Registered h none = true≢false h
left_of (Enrolled w) h none = none-some _ (sym none)
left_of (Withdrawn w) h none = none-some _ (sym none)

-- the customer after a ruling is the one before it, or the one that a granted enrolment names
pub customer_after : (has : ℕ → Type 0) (k : Kind) (g : Bool) (e : Enrolment) (c : ℕ) → IfSome (customer_of e) has → (g ≡ true → same_kind k Enrol ≡ true → has c)
    → IfSome (customer_of (cond (g && same_kind k Enrol) (Enrolled c) (cond (g && same_kind k Withdraw) (withdrawn_of e) e))) has
unfolding same_kind
customer_after has k false e c was named = was
customer_after has Enrol true e c was named = named refl refl
customer_after has Withdraw true Registered c was named = tt
customer_after has Withdraw true (Enrolled w) c was named = was
customer_after has Withdraw true (Withdrawn w) c was named = was
customer_after has Reset true e c was named = was
customer_after has Audit true e c was named = was
customer_after has Refund true e c was named = was

-- a device that is not enrolled then has bought nothing then
bought_after : (k : Kind) (g : Bool) (e : Enrolment) (c bought amount : ℕ) → (customer_of e ≡ None → bought ≡ 0) → (g ≡ true → not (same_kind k Enrol) ≡ true → has_left (customer_of e) (is_withdrawn e) ≡ false)
    → customer_of (cond (g && same_kind k Enrol) (Enrolled c) (cond (g && same_kind k Withdraw) (withdrawn_of e) e)) ≡ None → bought + cond (g && same_kind k Reset) amount 0 ≡ 0
unfolding same_kind
bought_after k false e c b a was left none = let before = was none in omega arith
bought_after Enrol true e c b a was left none = absurd (none-some _ (sym none))
bought_after Withdraw true Registered c b a was left none = let before = was refl in omega arith
bought_after Withdraw true (Enrolled w) c b a was left none = absurd (none-some _ (sym none))
bought_after Withdraw true (Withdrawn w) c b a was left none = absurd (none-some _ (sym none))
bought_after Reset true e c b a was left none = absurd (left_of e (left refl refl) none)
bought_after Audit true e c b a was left none = let before = was none in omega arith
bought_after Refund true e c b a was left none = let before = was none in omega arith

-- a granted enrolment names a customer
enrols_customer : (r : DeviceRow) (q : Request) (o : Option CustomerRow) → IsPayer r q o → same_kind q.kind Enrol ≡ true → is_some o ≡ true → IsCustomer q.customer
enrols_customer r q None paid k h = absurd (true≢false (sym h))
enrols_customer r q (Some c) paid k h = subst IsCustomer (paid.0 ∙ ap (λ b. cond b q.customer (own_customer (enrolled_in r))) k) paid.1

pub names_customer : (r : DeviceRow) (v : Verdict) (balance : ℕ) (q : Request) → IsVerdict r balance q v → NamesCustomer v q
names_customer r v balance q (o, paid, says) g enrol =
    let was = granted (account r o balance) q (sym (ap is_granted says) ∙ g) in
    enrols_customer r q o paid enrol (was.opened enrol)

bought_then : (r : DeviceRow) (v : Verdict) (balance : ℕ) (q : Request) → IsSoundDevice r → IsVerdict r balance q v → customer_of (enrolment_after r.enrolment v q) ≡ None → r.buys + adds v q ≡ 0
unfolding adds
bought_then r v balance q sound (o, paid, says) =
    bought_after q.kind (is_granted v) r.enrolment q.customer r.buys q.amount sound.registered (λ g. (granted (account r o balance) q (sym (ap is_granted says) ∙ g)).left)

-- == the row ==

pub ruled_sound : (r : DeviceRow) (v : Verdict) (balance : ℕ) (q : Request) (note : List ℕ) → IsSoundDevice r → IsWord r.origin → IsWhole (m.Request q) → spell (m.Request q) r.key ≡ note → q.device ≡ r.device → q.number ≡ r.ruled + 1 → IsVerdict r balance q v → IsSoundDevice (ruled_row r v balance q note)
ruled_sound r v balance q note sound origin whole spelled device n is =
    let sums = sums_after r v balance q sound is in
    record {
      registered = bought_then r v balance q sound is;
      enrolled = customer_after IsCustomer q.kind (is_granted v) r.enrolment q.customer sound.enrolled (names_customer r v balance q is);
      settled_le = omega arith;
      ruled_le = omega arith;
      returns_le = sums.returns_le;
      limit = sums.limit;
      unruled = λ h. absurd (omega arith);
      ruling = λ _. (
        q,
        reply_by r v balance q,
        record {
          request = sym spelled;
          request_whole = whole;
          request_device = device;
          request_number = refl;
          reply = refl;
          reply_whole = reply_whole r v balance q sound origin whole is;
          reply_device = device;
          reply_number = refl;
          kind = refl;
          version = refl;
          buys = λ _ g k. let x = sums.filled g k in let a = x.0 in let t = x.1 in let le = sound.returns_le in let shown = amount_granted v q.amount r.buys balance g in
              omega (arith, written_le q.version (amount_shown v q.amount r.buys balance));
          returns = λ _ g k. let t = sums.emptied g k in let shown = amount_granted v q.amount r.buys balance g in
              omega (arith, written_le q.version (amount_shown v q.amount r.buys balance));
        },
      );
    }

-- bytes that read as a Request and end in their code under the key are its spelling
pub spelled_so : (q : Request) (key bytes code : List ℕ) → ReadsAs bytes (m.Request q) code → HasCode bytes key → spell (m.Request q) key ≡ bytes
unfolding spell
spelled_so q key bytes code is has =
    let parts = cut (body (m.Request q)) code bytes is.long is.spelled in
    let made : code ≡ hmac key (body (m.Request q)) = sym parts.1 ∙ has.1 ∙ ap (hmac key) parts.0 in
    ap (λ k. body (m.Request q) ++ k) (sym made) ∙ sym is.spelled
