-- What one commit does to the rows of the centre, and what the rows say of a ruling and of a balance.
use Rattle.std.proofs.Common.{◌≡◌, ℕ, pos, ◌+ℤ◌, ◌+◌, Bool, true, false, List, [], ◌∷◌, Option, Some, None, Ok, Err, cond, refl, sym, ap, ap₂, subst, ◌∙◌, true≢false, arith}
use Rattle.std.specs.Prelude.{◌==◌, ◌&&◌, not, nat_le, IsSome, sum_by}
use Rattle.std.proofs.lemmas.List.Sums.{sum_by-cons}
use Rattle.std.proofs.lemmas.Bool.{eqb-true, eq-eqb}
use Rattle.bench_base.specs.declared.{words.Kind.Kind, words.Kind.TheVariants.Enrol, words.Kind.TheVariants.Reset, words.Kind.TheVariants.Audit, words.Kind.TheVariants.Refund, words.Kind.TheVariants.Withdraw, words.Verdict.Verdict, words.Verdict.TheVariants.Granted, ledger.Commit.Commit, ledger.Commit.TheVariants.Registered, ledger.Commit.TheVariants.Opened, ledger.Commit.TheVariants.Deposited, ledger.Commit.TheVariants.Flagged, ledger.Commit.TheVariants.Ruled, ledger.Commit.TheVariants.Settled}
use Rattle.bench_base.specs.Kinds.{same_kind, is_granted, is_dated}
use Rattle.bench_base.specs.Rows.{first_of}
use Rattle.psd_wire.specs.declared.message.Message.TheVariants as m
use Rattle.psd_wire.specs.Grammar.{spell}
use Rattle.bench_base.specs.declared.refusals.CentreRefusal.TheVariants as no
use Rattle.bench_base.proofs.Facts.{some_none, not_none, either}
use Rattle.bench_base.proofs.Rows.{first}
use Rattle.psd_wire.specs.declared.message.Request.{Request}
use Rattle.ledger_terms.specs.Requests.{request_in}
use Rattle.ledger_terms.specs.Sums.{adds, takes, ruled_sum, bought, returned}
use Rattle.ledger_terms.specs.Centres.{registered, origin_in, key_in, enrolled, withdrawn, ruled, done, settled, opened, suspended, deposits, receipt, is_some_at, device_numbers, sum_over, device_share, customer_sum}
use Rattle.ledger_terms.specs.Rulings.{Account, account_of, verdict, verdict_by, verdict_rows, stored_reply, has_left, is_enrolled, reply_to, written_amount}
use Rattle.centre_ledger.specs.declared.{rows.DeviceRow.DeviceRow, rows.Enrolment.Enrolment, rows.Enrolment.TheVariants.Registered as NeverEnrolled, rows.Enrolment.TheVariants.Enrolled, rows.Enrolment.TheVariants.Withdrawn}
use Rattle.centre_ledger.specs.Answers.{settle_answer}
use Rattle.centre_ledger.specs.Order.{InOrder}
use Rattle.centre_ledger.specs.Rows.{customer_of, is_withdrawn, withdrawn_of, enrolled_in, account, amount_shown, reply_by, buys_in, returns_in}
use Rattle.centre_ledger.specs.Records.{last_ruling, stored_note, note_or_none, IsRowOf}
use Rattle.centre_ledger.proofs.Passed.{deposit_taken, granted}
use Rattle.centre_ledger.specs.Laws.{RegisteringStarts, SettlingKeeps, OtherDevicesKeep, OpeningStarts, DepositingKeeps, FlaggingKeeps, OtherCustomersKeep, RulingByRows, RulingKeeps, IsSlotOf, AreSlots, BalancingByRows}

-- == devices ==

-- the centre holds nothing of a device before its Registered
pub record Nothing (d : ℕ) (C : List Commit) : Type 0 where
  pub enrolled : enrolled d C ≡ None
  pub withdrawn : withdrawn d C ≡ false
  pub ruled : ruled d C ≡ 0
  pub done : done d C ≡ 0
  pub bought : bought d C ≡ 0
  pub returned : returned d C ≡ 0
  pub last : last_ruling d C ≡ None
  pub reply : stored_reply d C ≡ None

pub nothing_before : (d : ℕ) (C : List Commit) → InOrder C → registered d C ≡ None → Nothing d C
nothing_before d [] o h = record { enrolled = refl; withdrawn = refl; ruled = refl; done = refl; bought = refl; returned = refl; last = refl; reply = refl }
nothing_before d (Registered e origin key ∷ C) o h = either e d
    (λ t y. absurd (some_none (rw t at h)))
    (λ t. let n = nothing_before d C o.1 (rw t at h) in record { enrolled = n.enrolled; withdrawn = n.withdrawn; ruled = n.ruled; done = n.done; bought = n.bought; returned = n.returned; last = n.last; reply = n.reply })
nothing_before d (Ruled e n v note ∷ C) o h =
    let was = nothing_before d C o.1 h in
    either e d
    (λ t y. absurd (not_none (registered d C) (subst (λ z. IsSome (registered z C)) y o.0.0) h))
    (λ t. record {
      enrolled = rw t was.enrolled;
      withdrawn = rw t was.withdrawn;
      ruled = rw t was.ruled;
      done = was.done;
      bought = rw t was.bought;
      returned = rw t was.returned;
      last = rw t was.last;
      reply = rw t was.reply;
    })
nothing_before d (Settled e n ∷ C) o h =
    let was = nothing_before d C o.1 h in
    either e d
    (λ t y. absurd (not_none (registered d C) (subst (λ z. IsSome (registered z C)) y o.0) h))
    (λ t. record { enrolled = was.enrolled; withdrawn = was.withdrawn; ruled = was.ruled; done = rw t was.done; bought = was.bought; returned = was.returned; last = was.last; reply = was.reply })
nothing_before d (_ ∷ C) o h = let n = nothing_before d C o.1 h in record { enrolled = n.enrolled; withdrawn = n.withdrawn; ruled = n.ruled; done = n.done; bought = n.bought; returned = n.returned; last = n.last; reply = n.reply }

pub registering : RegisteringStarts
registering d origin key C o h =
    let n = nothing_before d C o h in
    let a = n.ruled in
    let b = n.done in
    record {
      registered = rw (eq-eqb d d refl) refl;
      enrolled = n.enrolled;
      withdrawn = n.withdrawn;
      ruled = n.ruled;
      settled = omega arith;
      bought = n.bought;
      returned = n.returned;
      request = ap stored_note n.last;
      reply = ap note_or_none n.reply;
    }

-- what is settled now is the number that was ruled last
pub settles : (settled ruled n now : ℕ) → settle_answer settled ruled n ≡ Ok (Some now) → now ≡ ruled
settles settled ruled n now h = go (nat_le n settled) (n == ruled) refl h
  where
    go : (t u : Bool) → (n == ruled) ≡ u → cond t (Ok None) (cond u (Ok (Some n)) (Err (no.Ahead ruled))) ≡ Ok (Some now) → now ≡ ruled
    go true u e k = absurd (cc)
    go false true e k = let same : n ≡ now = cc in sym same ∙ eqb-true n ruled e
    go false false e k = absurd (cc)

-- and it is the number that was done
pub settled_number : (settled ruled n now : ℕ) → settle_answer settled ruled n ≡ Ok (Some now) → now ≡ n
settled_number settled ruled n now h = go (nat_le n settled) (n == ruled) h
  where
    go : (t u : Bool) → cond t (Ok None) (cond u (Ok (Some n)) (Err (no.Ahead ruled))) ≡ Ok (Some now) → now ≡ n
    go true u k = absurd (cc)
    go false true k = let same : n ≡ now = cc in sym same
    go false false k = absurd (cc)

pub settling : SettlingKeeps
settling r C number now sound is h =
    let same = settles r.settled r.ruled number now h in
    let ruled = is.ruled in
    let was = is.settled in
    let le = sound.settled_le in
    record {
      registered = is.registered;
      enrolled = is.enrolled;
      withdrawn = is.withdrawn;
      ruled = is.ruled;
      settled = rw (eq-eqb r.device r.device refl) (omega arith);
      bought = is.bought;
      returned = is.returned;
      request = is.request;
      reply = is.reply;
    }

pub other_devices : OtherDevicesKeep
other_devices r C (Registered e origin key) h is = record { registered = rw h is.registered; enrolled = is.enrolled; withdrawn = is.withdrawn; ruled = is.ruled; settled = is.settled; bought = is.bought; returned = is.returned; request = is.request; reply = is.reply }
other_devices r C (Ruled e n v note) h is = record { registered = is.registered; enrolled = rw h is.enrolled; withdrawn = rw h is.withdrawn; ruled = rw h is.ruled; settled = rw h is.settled; bought = rw h is.bought; returned = rw h is.returned; request = rw h is.request; reply = rw h is.reply }
other_devices r C (Settled e n) h is = record { registered = is.registered; enrolled = is.enrolled; withdrawn = is.withdrawn; ruled = is.ruled; settled = rw h is.settled; bought = is.bought; returned = is.returned; request = is.request; reply = is.reply }
other_devices r C _ h is = record { registered = is.registered; enrolled = is.enrolled; withdrawn = is.withdrawn; ruled = is.ruled; settled = is.settled; bought = is.bought; returned = is.returned; request = is.request; reply = is.reply }

-- == customers ==

pub record NoMoney (c : ℕ) (C : List Commit) : Type 0 where
  pub suspended : suspended c C ≡ false
  pub deposits : deposits c C ≡ 0
  pub receipt : receipt c C ≡ (0, 0)

pub no_money : (c : ℕ) (C : List Commit) → InOrder C → opened c C ≡ false → NoMoney c C
no_money c [] o h = record { suspended = refl; deposits = refl; receipt = refl }
no_money c (Opened e ∷ C) o h = either e c
    (λ t y. absurd (true≢false (rw t at h)))
    (λ t. let n = no_money c C o.1 (rw t at h) in record { suspended = n.suspended; deposits = n.deposits; receipt = n.receipt })
no_money c (Deposited e n a ∷ C) o h = either e c
    (λ t y. absurd (true≢false (sym (subst (λ z. opened z C ≡ true) y o.0.0) ∙ h)))
    (λ t. let was = no_money c C o.1 h in record { suspended = was.suspended; deposits = rw t was.deposits; receipt = rw t was.receipt })
no_money c (Flagged e s ∷ C) o h = either e c
    (λ t y. absurd (true≢false (sym (subst (λ z. opened z C ≡ true) y o.0) ∙ h)))
    (λ t. let was = no_money c C o.1 h in record { suspended = rw t was.suspended; deposits = was.deposits; receipt = was.receipt })
no_money c (_ ∷ C) o h = let n = no_money c C o.1 h in record { suspended = n.suspended; deposits = n.deposits; receipt = n.receipt }

pub opening : OpeningStarts
opening c C o h =
    let n = no_money c C o h in
    record { opened = rw (eq-eqb c c refl) refl; suspended = n.suspended; deposits = n.deposits; receipt = n.receipt }

pub depositing : DepositingKeeps
depositing r C n a after is h =
    let sum = (deposit_taken (r.receipt, r.amount) r.deposits n a after h).sum in
    let was = is.deposits in
    let own : (r.customer == r.customer) ≡ true = eq-eqb r.customer r.customer refl in
    record { opened = is.opened; suspended = is.suspended; deposits = rw own (omega arith); receipt = rw own refl }

pub flagging : FlaggingKeeps
flagging r C s is = record { opened = is.opened; suspended = rw (eq-eqb r.customer r.customer refl) refl; deposits = is.deposits; receipt = is.receipt }

pub other_customers : OtherCustomersKeep
other_customers r C (Opened e) h is = record { opened = rw h is.opened; suspended = is.suspended; deposits = is.deposits; receipt = is.receipt }
other_customers r C (Deposited e n a) h is = record { opened = is.opened; suspended = is.suspended; deposits = rw h is.deposits; receipt = rw h is.receipt }
other_customers r C (Flagged e s) h is = record { opened = is.opened; suspended = rw h is.suspended; deposits = is.deposits; receipt = is.receipt }
other_customers r C _ h is = record { opened = is.opened; suspended = is.suspended; deposits = is.deposits; receipt = is.receipt }

-- == a ruling ==

pub ruling : RulingByRows
unfolding verdict
ruling r o left q C is device pays =
    let a : enrolled q.device C ≡ enrolled_in r = ap (λ d. enrolled d C) device ∙ is.enrolled in
    let b : withdrawn q.device C ≡ is_withdrawn r.enrolment = ap (λ d. withdrawn d C) device ∙ is.withdrawn in
    let c : bought q.device C ≡ r.buys = ap (λ d. bought d C) device ∙ is.bought in
    let d : returned q.device C ≡ r.returns = ap (λ d. returned d C) device ∙ is.returned in
    let same : account r o left ≡ account_of C q = λ i. record {
      enrolled = sym a i;
      withdrawn = sym b i;
      bought = sym c i;
      returned = sym d i;
      opened = sym pays.opened i;
      suspended = sym pays.suspended i;
      balance = sym pays.balance i;
    } in
    ap (λ (x : Account). verdict_by x q) same

-- the amount in the Reply follows from the verdict
pub shown : (a : Account) (q : Request) → (verdict_by a q).1 ≡ amount_shown (verdict_by a q).0 q.amount a.bought a.balance
unfolding verdict_by
shown a q = first (λ (x : Verdict × ℕ). x.1 ≡ amount_shown x.0 q.amount a.bought a.balance) (verdict_rows a q) (Granted, q.amount) (refl, (refl, (refl, (refl, (refl, (refl, tt)))))) (λ _. refl)

enrolled_after : (k : Kind) (g : Bool) (e : Enrolment) (c : ℕ) → (g ≡ true → same_kind k Enrol ≡ true → is_enrolled (customer_of e) ≡ false)
    → cond (g && same_kind k Enrol) (first_of (customer_of e) (Some c)) (customer_of e) ≡ customer_of (cond (g && same_kind k Enrol) (Enrolled c) (cond (g && same_kind k Withdraw) (withdrawn_of e) e))
unfolding same_kind
enrolled_after k false e c new = refl
enrolled_after Enrol true NeverEnrolled c new = refl
enrolled_after Enrol true (Enrolled w) c new = absurd (true≢false (new refl refl))
enrolled_after Enrol true (Withdrawn w) c new = absurd (true≢false (new refl refl))
enrolled_after Withdraw true NeverEnrolled c new = refl
enrolled_after Withdraw true (Enrolled w) c new = refl
enrolled_after Withdraw true (Withdrawn w) c new = refl
enrolled_after Reset true e c new = refl
enrolled_after Audit true e c new = refl
enrolled_after Refund true e c new = refl

withdrawn_after : (k : Kind) (g : Bool) (e : Enrolment) (c : ℕ) → (g ≡ true → not (same_kind k Enrol) ≡ true → has_left (customer_of e) (is_withdrawn e) ≡ false)
    → (g ≡ true → same_kind k Enrol ≡ true → is_enrolled (customer_of e) ≡ false)
    → cond (g && same_kind k Withdraw) true (is_withdrawn e) ≡ is_withdrawn (cond (g && same_kind k Enrol) (Enrolled c) (cond (g && same_kind k Withdraw) (withdrawn_of e) e))
unfolding same_kind
withdrawn_after k false e c left new = refl
withdrawn_after Withdraw true NeverEnrolled c left new = absurd (true≢false (left refl refl))
withdrawn_after Withdraw true (Enrolled w) c left new = refl
withdrawn_after Withdraw true (Withdrawn w) c left new = refl
withdrawn_after Enrol true NeverEnrolled c left new = refl
withdrawn_after Enrol true (Enrolled w) c left new = refl
withdrawn_after Enrol true (Withdrawn w) c left new = absurd (true≢false (new refl refl))
withdrawn_after Reset true e c left new = refl
withdrawn_after Audit true e c left new = refl
withdrawn_after Refund true e c left new = refl

pub ruling_keeps : RulingKeeps
unfolding reply_to
ruling_keeps r o left note C sound is device number pays v verdict_is =
    let q = request_in note in
    let own : (r.device == r.device) ≡ true = eq-eqb r.device r.device refl in
    let may = λ (h : is_granted v ≡ true). granted (account r o left) q (sym (ap is_granted verdict_is) ∙ h) in
    let same = ruling r o left q C is device pays in
    let was_ruled = is.ruled in
    let was_settled = is.settled in
    let le = sound.settled_le in
    let v_same : (verdict C q).0 ≡ v = sym (ap (λ (x : Verdict × ℕ). x.0) same) ∙ sym verdict_is in
    let amount_same : (verdict C q).1 ≡ amount_shown v q.amount r.buys left = sym (ap (λ (x : Verdict × ℕ). x.1) same) ∙ shown (account r o left) q ∙ ap (λ x. amount_shown x q.amount r.buys left) (sym verdict_is) in
    let known : registered q.device C ≡ Some (r.origin, r.key) = ap (λ d. registered d C) device ∙ is.registered in
    let reply_same : reply_to C q ≡ reply_by r v left q = λ i. record {
      version = q.version;
      device = q.device;
      number = q.number;
      kind = q.kind;
      verdict = v_same i;
      amount = written_amount q.version (amount_same i);
      deadline = cond (is_dated (v_same i) q.kind) (q.day +ℤ pos 92) (pos 0);
      origin = origin_in (known i);
    } in
    record {
      registered = is.registered;
      enrolled = rw own (rw is.enrolled (enrolled_after q.kind (is_granted v) r.enrolment q.customer (λ h. (may h).new)));
      withdrawn = rw own (rw is.withdrawn (withdrawn_after q.kind (is_granted v) r.enrolment q.customer (λ h. (may h).left) (λ h. (may h).new)));
      ruled = rw own (omega arith);
      settled = rw own (omega arith);
      bought = rw own (ap (λ n. n + adds v q) is.bought);
      returned = rw own (ap (λ n. n + takes v q) is.returned);
      request = rw own refl;
      reply = rw own (λ i. spell (m.Reply (reply_same i)) (key_in (known i)));
    }

-- == a balance ==

pub share_none : (f : Verdict → Request → ℕ) (d c : ℕ) (C : List Commit) → enrolled d C ≡ None → device_share f c C d ≡ 0
share_none f d c C h = ap (λ o. cond (is_some_at o c) (ruled_sum f d C) 0) h

pub share_row : (f : Verdict → Request → ℕ) (sum : ℕ) (r : DeviceRow) (c : ℕ) (C : List Commit) → IsRowOf r C → ruled_sum f r.device C ≡ sum → device_share f c C r.device ≡ cond (is_some_at (enrolled_in r) c) sum 0
share_row f sum r c C is amount = ap₂ (λ o n. cond (is_some_at o c) n 0) is.enrolled amount

slot_buys : (o : Option DeviceRow) (d c : ℕ) (C : List Commit) → InOrder C → IsSlotOf o d C → buys_in c o ≡ device_share adds c C d
slot_buys None d c C order h = sym (share_none adds d c C (nothing_before d C order h).enrolled)
slot_buys (Some r) d c C order h = sym (share_row adds r.buys r c C h.2 h.2.bought) ∙ ap (device_share adds c C) h.0

slot_returns : (o : Option DeviceRow) (d c : ℕ) (C : List Commit) → InOrder C → IsSlotOf o d C → returns_in c o ≡ device_share takes c C d
slot_returns None d c C order h = sym (share_none takes d c C (nothing_before d C order h).enrolled)
slot_returns (Some r) d c C order h = sym (share_row takes r.returns r c C h.2 h.2.returned) ∙ ap (device_share takes c C) h.0

sums_same : (f : Option DeviceRow → ℕ) (g : ℕ → ℕ) (c : ℕ) (C : List Commit) → ((o : Option DeviceRow) (d : ℕ) → IsSlotOf o d C → f o ≡ g d) → (os : List (Option DeviceRow)) (ds : List ℕ) → AreSlots os ds C → sum_by f os ≡ sum_over g ds
sums_same f g c C each [] [] h = refl
sums_same f g c C each [] (d ∷ ds) h = absurd h
sums_same f g c C each (o ∷ os) [] h = absurd h
sums_same f g c C each (o ∷ os) (d ∷ ds) h =
    let here = each o d h.0 in
    let rest = sums_same f g c C each os ds h.1 in
    grind (arith, sum_by-cons)

pub balancing : BalancingByRows
unfolding customer_sum
balancing os c C order customer slots = (
  sums_same (buys_in c) (device_share adds c C) c C (λ o d h. slot_buys o d c C order h) os device_numbers slots,
  sums_same (returns_in c) (device_share takes c C) c C (λ o d h. slot_returns o d c C order h) os device_numbers slots,
)
