-- The row of the commits is the only one, and a ruling by these rows is the one that follows from the commits.
use Rattle.std.proofs.Common.{◌≡◌, ℕ, pos, ◌+ℤ◌, Bool, true, false, List, [], ◌∷◌, Option, Some, None, cond, refl, sym, ap, ap₂, ◌∙◌}
use Rattle.std.specs.Prelude.{◌&&◌, not, is_some, if◌then◌else◌}
use Rattle.bench_base.specs.Kinds.{is_dated, same_kind}
use Rattle.bench_base.specs.Rows.{first_holding}
use Rattle.bench_base.specs.declared.{words.Kind.TheVariants.Enrol, words.Verdict.Verdict, words.Verdict.TheVariants.Granted, words.Verdict.TheVariants.NotEnrolled, ledger.Commit.Commit}
use Rattle.psd_wire.specs.declared.message.Request.{Request}
use Rattle.psd_wire.specs.declared.message.Message.TheVariants as m
use Rattle.psd_wire.specs.Grammar.{spell}
use Rattle.ledger_terms.specs.Centres.{registered, origin_in, key_in, enrolled, withdrawn, opened, suspended, balance}
use Rattle.ledger_terms.specs.Rulings.{Account, account_of, verdict, verdict_by, verdict_rows, has_left, own_customer, payer, written_amount, reply_to, reply_note}
use Rattle.centre_ledger.specs.declared.{rows.DeviceRow.DeviceRow, rows.CustomerRow.CustomerRow, rows.Enrolment.Enrolment, rows.Enrolment.TheVariants.Registered, rows.Enrolment.TheVariants.Enrolled, rows.Enrolment.TheVariants.Withdrawn}
use Rattle.centre_ledger.specs.Acts.{payer_in, own_left, verdict_in, ruled_in}
use Rattle.centre_ledger.specs.Laws.{IsSlotOf, IsCustomerSlotOf}
use Rattle.centre_ledger.specs.Order.{InOrder}
use Rattle.centre_ledger.specs.Plans.{in_commits}
use Rattle.centre_ledger.specs.Records.{enrolment_of, device_row_with, device_row, customer_row_with, customer_row, IsRowOf, IsCustomerOf}
use Rattle.centre_ledger.specs.Rows.{account, customer_of, enrolled_in, is_withdrawn, is_suspended, amount_shown, reply_by}
use Rattle.centre_ledger.proofs.Following.{no_money, shown}

-- == the rows ==

enrolment_is : (e : Enrolment) → enrolment_of (customer_of e) (is_withdrawn e) ≡ e
enrolment_is Registered = refl
enrolment_is (Enrolled w) = refl
enrolment_is (Withdrawn w) = refl

row_is : (r : DeviceRow) (C : List Commit) → IsRowOf r C → device_row_with r.device C (r.origin, r.key) ≡ r
row_is r C is = λ k. record {
  device = r.device;
  enrolment = (ap₂ enrolment_of is.enrolled is.withdrawn ∙ enrolment_is r.enrolment) k;
  origin = r.origin;
  key = r.key;
  ruled = is.ruled k;
  settled = is.settled k;
  buys = is.bought k;
  returns = is.returned k;
  request = is.request k;
  reply = is.reply k;
}

pub one_device : (o : Option DeviceRow) (d : ℕ) (C : List Commit) → IsSlotOf o d C → device_row d C ≡ o
one_device None d C is = rw is refl
one_device (Some r) d C is = ap (λ e. device_row e C) (sym is.0) ∙ rw is.2.registered (ap (λ (x : DeviceRow). Some x) (row_is r C is.2))

customer_is : (r : CustomerRow) (C : List Commit) → IsCustomerOf r C → customer_row_with r.customer C ≡ r
customer_is r C is = λ k. record { customer = r.customer; suspended = is.suspended k; deposits = is.deposits k; receipt = (is.receipt k).0; amount = (is.receipt k).1 }

pub one_customer : (o : Option CustomerRow) (w : ℕ) (C : List Commit) → IsCustomerSlotOf o w C → customer_row w C ≡ o
one_customer None w C is = rw is refl
one_customer (Some r) w C is = ap (λ e. customer_row e C) (sym is.0) ∙ rw is.2.opened (ap (λ (x : CustomerRow). Some x) (customer_is r C is.2))

pub enrolled_is : (w : Option ℕ) (gone : Bool) → customer_of (enrolment_of w gone) ≡ w
enrolled_is None gone = refl
enrolled_is (Some w) true = refl
enrolled_is (Some w) false = refl

-- == a ruling ==

-- a device that was never enrolled was not withdrawn, but it counts as one that has left all the same
left_is : (w : Option ℕ) (gone : Bool) → has_left w (is_withdrawn (enrolment_of w gone)) ≡ has_left w gone
left_is None gone = refl
left_is (Some w) true = refl
left_is (Some w) false = refl

there_is : (w : ℕ) (C : List Commit) → is_some (customer_row w C) ≡ opened w C
there_is w C = by (opened w C)
  where
    by : (t : Bool) → is_some (if t then Some (customer_row_with w C) else None) ≡ t
    by true = refl
    by false = refl

suspended_is : (w : ℕ) (C : List Commit) → InOrder C → is_suspended (customer_row w C) ≡ suspended w C
suspended_is w C order = by (opened w C) refl
  where
    by : (t : Bool) → opened w C ≡ t → is_suspended (if t then Some (customer_row_with w C) else None) ≡ suspended w C
    by true at = refl
    by false at = sym (no_money w C order at).suspended

abbrev behind : {A : Type 0} → List A → List A
behind [] = []
behind (x ∷ xs) = xs

-- whether it was withdrawn counts only for whether it has left
left_alike : (a : Account) (gone : Bool) (q : Request) → has_left a.enrolled gone ≡ has_left a.enrolled a.withdrawn → verdict_by (record a { withdrawn = gone }) q ≡ verdict_by a q
unfolding verdict_by same_kind
left_alike a gone q same = ap given same
  where
    given : Bool → Verdict × ℕ
    given left = if not (same_kind q.kind Enrol) && left then (NotEnrolled, 0) else first_holding (behind (verdict_rows a q)) (Granted, q.amount)

module _ (C : List Commit) (order : InOrder C) (q : Request) (x : ℕ × List ℕ) where
  abbrev r : DeviceRow
  r = device_row_with q.device C x

  abbrev shows : Account
  shows = account r (payer_in (in_commits C) r q) (own_left (in_commits C) r)

  own : enrolled_in r ≡ enrolled q.device C
  own = enrolled_is (enrolled q.device C) (withdrawn q.device C)

  shows_so : shows ≡ record (account_of C q) { withdrawn = is_withdrawn r.enrolment }
  shows_so = λ i. record {
    enrolled = own i;
    withdrawn = is_withdrawn r.enrolment;
    bought = r.buys;
    returned = r.returns;
    opened = (there_is (payer q (enrolled_in r)) C ∙ ap (λ o. opened (payer q o) C) own) i;
    suspended = (suspended_is (payer q (enrolled_in r)) C order ∙ ap (λ o. suspended (payer q o) C) own) i;
    balance = balance (own_customer (own i)) C;
  }

  verdict_so : verdict_by shows q ≡ verdict C q
  unfolding verdict
  verdict_so = ap (λ (a : Account). verdict_by a q) shows_so ∙ left_alike (account_of C q) (is_withdrawn r.enrolment) q (left_is (enrolled q.device C) (withdrawn q.device C))

  pub verdict_is : verdict_in (in_commits C) r q ≡ (verdict C q).0
  verdict_is = ap (λ (y : Verdict × ℕ). y.0) verdict_so

  -- and the Reply that is sent is the one that the ledger plans
  pub reply_is : (bytes : List ℕ) → registered q.device C ≡ Some x → (ruled_in (in_commits C) r q bytes).reply ≡ reply_note C q
  unfolding reply_to
  reply_is bytes known = λ i. spell (m.Reply (same i)) (key_in (sym known i))
    where
      amount_is : amount_shown (verdict_in (in_commits C) r q) q.amount r.buys (own_left (in_commits C) r) ≡ (verdict C q).1
      amount_is = sym (shown shows q) ∙ ap (λ (y : Verdict × ℕ). y.1) verdict_so

      same : reply_by r (verdict_in (in_commits C) r q) (own_left (in_commits C) r) q ≡ reply_to C q
      same = λ i. record {
        version = q.version;
        device = q.device;
        number = q.number;
        kind = q.kind;
        verdict = verdict_is i;
        amount = written_amount q.version (amount_is i);
        deadline = cond (is_dated (verdict_is i) q.kind) (q.day +ℤ pos 92) (pos 0);
        origin = origin_in (sym known i);
      }
