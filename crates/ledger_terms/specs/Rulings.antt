-- How the centre rules on a Request, over the commits before it. Amounts are in mills.
use Rattle.std.specs.Prelude.{ℕ, pos, min, ◌+◌, ◌+ℤ◌, Bool, true, false, not, ◌&&◌, ◌||◌, List, [], ◌∷◌, Option, Some, None, ◌==◌, nat_lt, if◌then◌else◌}
use Rattle.bench_base.specs.declared.{words.Kind.TheVariants.Enrol, words.Kind.TheVariants.Reset, words.Kind.TheVariants.Audit, words.Verdict.Verdict, words.Verdict.TheVariants.Granted, words.Verdict.TheVariants.NotEnrolled, words.Verdict.TheVariants.EnrolledAlready, words.Verdict.TheVariants.NoCustomer, words.Verdict.TheVariants.Suspended, words.Verdict.TheVariants.NoFunds, words.Verdict.TheVariants.Imbalance, ledger.Commit.Commit, ledger.Commit.TheVariants.Ruled}
use Rattle.bench_base.specs.Kinds.{same_kind, empties, is_dated}
use Rattle.bench_base.specs.Rows.{first_holding, first_of, any_true}
use Rattle.psd_wire.specs.declared.{message.Request.Request, message.ReplyMsg.ReplyMsg}
use Rattle.psd_wire.specs.declared.message.Message.TheVariants as m
use Rattle.psd_wire.specs.Grammar.{spell}
use Rattle.ledger_terms.specs.Requests.{request_in}
use Rattle.ledger_terms.specs.Sums.{bought, returned}
use Rattle.ledger_terms.specs.Centres.{registered, origin_in, key_in, enrolled, withdrawn, opened, suspended, balance}

-- the greatest sum of buys that a Request of this version may lead to; no other version is read
abbrev pub buys_limit : ℕ → ℕ
buys_limit version = if version == 1 then 4294967295 else if version == 2 then 1000000000000 else 0

-- the amount as a Reply of this version names it: version 1 has four bytes for it
abbrev pub written_amount : ℕ → ℕ → ℕ
written_amount version amount = if version == 1 then min amount 4294967295 else amount

-- a reset of nothing, or past a limit: of one reset, or of all buys
abbrev pub is_past_limits : ℕ → ℕ → ℕ → Bool
is_past_limits version bought amount = any_true ((amount == 0) ∷ nat_lt 10000000 amount ∷ nat_lt (buys_limit version) (bought + amount) ∷ [])

-- how a Request can disagree with what the centre granted before
abbrev pub imbalances : Request → ℕ → ℕ → List Bool
imbalances q bought returned =
    not (q.ascending + q.descending + q.refunded == bought)
    ∷ not (q.refunded == returned)
    ∷ (empties q.kind && not (q.amount == q.descending))
    ∷ ((same_kind q.kind Enrol || same_kind q.kind Audit) && not (q.amount == 0))
    ∷ (same_kind q.kind Reset && is_past_limits q.version bought q.amount)
    ∷ []

-- some sum of the request differs from what the centre has
abbrev pub out_of_balance : Request → ℕ → ℕ → Bool
out_of_balance q bought returned = any_true (imbalances q bought returned)

-- never enrolled, or withdrawn
abbrev pub has_left : Option ℕ → Bool → Bool
has_left None gone = true
has_left (Some c) gone = gone

-- there is a customer
abbrev pub is_enrolled : Option ℕ → Bool
is_enrolled None = false
is_enrolled (Some c) = true

-- the customer, or 0
abbrev pub own_customer : Option ℕ → ℕ
own_customer None = 0
own_customer (Some c) = c

-- the customer who pays: the one asked for at an enrolment, otherwise the device's own
abbrev pub payer : Request → Option ℕ → ℕ
payer q own = if same_kind q.kind Enrol then q.customer else own_customer own

-- what the centre holds of a device and its customer when it rules
pub record Account : Type 0 where
  -- the customer under which the device is enrolled
  pub enrolled : Option ℕ
  pub withdrawn : Bool
  -- the sums of the device's buys and returns
  pub bought : ℕ
  pub returned : ℕ
  -- of the customer who pays
  pub opened : Bool
  pub suspended : Bool
  -- of the customer under which the device is enrolled
  pub balance : ℕ

-- verdicts with the amount in the Reply, in order; the first case that holds gives it
abbrev pub verdict_rows : Account → Request → List (Bool × (Verdict × ℕ))
verdict_rows a q =
    (not (same_kind q.kind Enrol) && has_left a.enrolled a.withdrawn, (NotEnrolled, 0))
    ∷ (same_kind q.kind Enrol && is_enrolled a.enrolled, (EnrolledAlready, 0))
    ∷ (out_of_balance q a.bought a.returned, (Imbalance, a.bought))
    ∷ (same_kind q.kind Enrol && not a.opened, (NoCustomer, 0))
    ∷ ((same_kind q.kind Enrol || same_kind q.kind Reset) && a.suspended, (Suspended, 0))
    ∷ (same_kind q.kind Reset && nat_lt a.balance q.amount, (NoFunds, a.balance))
    ∷ []

-- the verdict on a Request and the amount in the Reply, by what the centre holds
unfoldable pub verdict_by : Account → Request → Verdict × ℕ
verdict_by a q = first_holding (verdict_rows a q) (Granted, q.amount)

-- what a ruling on the request asks of the commits
abbrev pub account_of : List Commit → Request → Account
account_of C q = record {
  enrolled = enrolled q.device C;
  withdrawn = withdrawn q.device C;
  bought = bought q.device C;
  returned = returned q.device C;
  opened = opened (payer q (enrolled q.device C)) C;
  suspended = suspended (payer q (enrolled q.device C)) C;
  balance = balance (own_customer (enrolled q.device C)) C;
}

-- the verdict on a Request, and the amount in the Reply, over the commits before it
unfoldable pub verdict : List Commit → Request → Verdict × ℕ
verdict C q = verdict_by (account_of C q) q

-- the Reply to a Request
unfoldable pub reply_to : List Commit → Request → ReplyMsg
reply_to C q = record {
  version = q.version;
  device = q.device;
  number = q.number;
  kind = q.kind;
  verdict = (verdict C q).0;
  amount = written_amount q.version (verdict C q).1;
  deadline = if is_dated (verdict C q).0 q.kind then q.day +ℤ pos 92 else pos 0;
  origin = origin_in (registered q.device C);
}

-- its spelling under the registered key
abbrev pub reply_note : List Commit → Request → List ℕ
reply_note C q = spell (m.Reply (reply_to C q)) (key_in (registered q.device C))

-- the Reply to the first Ruled of number n, over the commits before it
abbrev pub ruled_reply : ℕ → ℕ → List Commit → Option ReplyMsg
ruled_reply d n [] = None
ruled_reply d n (Ruled e m v note ∷ C) = if (e == d) && (m == n) then first_of (ruled_reply d n C) (Some (reply_to C (request_in note))) else ruled_reply d n C
ruled_reply d n (_ ∷ C) = ruled_reply d n C

-- the stored Reply: the one to the last Ruled, over the commits before that
abbrev pub stored_reply : ℕ → List Commit → Option (List ℕ)
stored_reply d [] = None
stored_reply d (Ruled e n v note ∷ C) = if e == d then Some (reply_note C (request_in note)) else stored_reply d C
stored_reply d (_ ∷ C) = stored_reply d C
