-- Which commits may follow which. `Fits ρ c C` says what the node of c had looked at when it made c after the commits C: that
-- its refusals did not hold, and what its messages contained. In a good list each commit fits those before it. Two kinds of
-- facts stand here: facts about the node's own commits, and, about other nodes, look-ups by number that stay once they are
-- found. So a commit of one node can't spoil what another node's commit rests on. The records speak of values and not of the
-- list, so that a commit that changes none of them leaves them as they are.
use Rattle.std.proofs.Common.{◌≡◌, ℕ, ℤ, pos, ◌+◌, ◌-◌, ◌<◌, ◌≤◌, ◌+ℤ◌, Bool, true, false, List, [], ◌∷◌, length, Option, Some, None, Ok}
use Rattle.std.specs.Prelude.{◌||◌, ◌&&◌, is_none, nat_le, ◌≤ℤ◌, ◌<ℤ◌}
use Rattle.bench_base.specs.declared.{words.Verdict.Verdict, words.Verdict.TheVariants.Granted, words.Kind.TheVariants.Enrol, words.Kind.TheVariants.Reset, words.Kind.TheVariants.Audit, words.JobState.JobState, words.JobState.TheVariants.Held as HeldJob, words.Phase.Phase, words.Phase.TheVariants.InService, ledger.Commit.Commit, ledger.Commit.TheVariants.Made, ledger.Commit.TheVariants.Asked, ledger.Commit.TheVariants.Applied, ledger.Commit.TheVariants.Debited, ledger.Commit.TheVariants.Registered, ledger.Commit.TheVariants.Opened, ledger.Commit.TheVariants.Deposited, ledger.Commit.TheVariants.Flagged, ledger.Commit.TheVariants.Ruled, ledger.Commit.TheVariants.Settled, ledger.Commit.TheVariants.Ordered, ledger.Commit.TheVariants.Held, ledger.Commit.TheVariants.Began, ledger.Commit.TheVariants.Closed, ledger.Commit.TheVariants.Trusted, ledger.Commit.TheVariants.Accepted}
use Rattle.bench_base.specs.Rules.{Rules}
use Rattle.bench_base.specs.Ranges.{InRange}
use Rattle.bench_base.specs.Kinds.{same_kind, empties, is_allowed}
use Rattle.bench_base.specs.Jobs.{Job, last_job, job_of, state_of, open_job, top}
use Rattle.bench_base.specs.Scans.{trusted, accepted, block_of, block_place, blocks}
use Rattle.host_jobs.specs.Answers.{is_open}
use Rattle.host_jobs.specs.Order.{IsMarkOf}
use Rattle.psd_wire.specs.declared.message.Message.TheVariants as m
use Rattle.psd_wire.specs.declared.message.ReplyMsg.{ReplyMsg}
use Rattle.psd_wire.specs.Grammar.{read, spell, IsWhole}
use Rattle.ledger_terms.specs.Requests.{request_in, note_of}
use Rattle.ledger_terms.specs.Sums.{adds, loaded, refunded, ascending, descending, pieces}
use Rattle.ledger_terms.specs.Devices.{key_of, number, applied_of, pending, frozen, phase, deadline, last_day, customer}
use Rattle.ledger_terms.specs.Centres.{registered, ruled, settled, opened, receipt, deposits}
use Rattle.ledger_terms.specs.InFlight.{ruling_of}
use Rattle.ledger_terms.specs.Rulings.{verdict, reply_to, buys_limit}

pub record FitsAsked (ρ : Rules) (d n : ℕ) (r : List ℕ) (key : Option (List ℕ)) (waiting : Option (ℕ × List ℕ)) (last loaded left cleared used : ℕ) (last_day : ℤ) (phase : Phase) (customer : ℕ) : Type 0 where
  -- the note is the spelling, under the device's key, of a Request that fits its fields
  pub made : (k : List ℕ) × (key ≡ Some k) × (r ≡ spell (m.Request (request_in r)) k)
  pub whole : IsWhole (m.Request (request_in r))
  pub reads : read r ≡ Ok (m.Request (request_in r))
  pub idle : waiting ≡ None
  pub next : n ≡ last + 1
  pub device : (request_in r).device ≡ d
  pub number : (request_in r).number ≡ n
  pub ascending : (request_in r).ascending ≡ used
  pub descending : (request_in r).descending ≡ left
  pub refunded : (request_in r).refunded ≡ cleared
  pub day : last_day ≤ℤ (request_in r).day
  -- a refund is of all that is left, and a reset stays within the limits: the edition's, and that of the Request's version
  pub all : empties (request_in r).kind ≡ true → (request_in r).amount ≡ left
  pub within : loaded + adds Granted (request_in r) ≤ ρ.total
  pub bound : loaded + adds Granted (request_in r) ≤ buys_limit (request_in r).version
  pub size : same_kind (request_in r).kind Reset ≡ true → (1 ≤ (request_in r).amount) × ((request_in r).amount ≤ 10000000)
  pub allowed : is_allowed (request_in r).kind phase ≡ true
  pub owner : same_kind (request_in r).kind Enrol ≡ false → (request_in r).customer ≡ customer
  pub nothing : (same_kind (request_in r).kind Enrol || same_kind (request_in r).kind Audit) ≡ true → (request_in r).amount ≡ 0

pub record FitsApplied (n : ℕ) (v : Verdict) (waiting : Option (ℕ × List ℕ)) (ruling : Option (Verdict × List ℕ)) : Type 0 where
  pub note : List ℕ
  pub waits : waiting ≡ Some (n, note)
  pub ruled_as : ruling ≡ Some (v, note)

pub record FitsDebited (ρ : Rules) (p a : ℕ) (t : ℤ) (v : ℕ) (key : Option (List ℕ)) (count used left : ℕ) (waiting : Option (ℕ × List ℕ)) (phase : Phase) (last_day deadline : ℤ) : Type 0 where
  pub made : (k : List ℕ) × (key ≡ Some k)
  pub free : frozen waiting ≡ false
  pub next : p ≡ count + 1
  pub low : 1 ≤ a
  pub high : a ≤ 100000
  pub funded : a ≤ left
  pub serves : phase ≡ InService
  pub day : last_day ≤ℤ t
  pub due : t ≤ℤ (deadline +ℤ pos ρ.grace)
  pub small : deadline <ℤ t → a ≤ ρ.small
  pub from_1 : 1 ≤ v
  pub known : v ≤ ρ.version
  -- a mark of that version holds the registers
  pub bound : used + left ≤ buys_limit v

pub record FitsRuled (n : ℕ) (v : Verdict) (r : List ℕ) (last : ℕ) (note : Option (List ℕ)) (registered : Option (ℕ × List ℕ)) (says : Verdict × ℕ) (reply : ReplyMsg) : Type 0 where
  pub next : n ≡ last + 1
  pub asked_as : note ≡ Some r
  pub known : (x : ℕ × List ℕ) × (registered ≡ Some x)
  pub verdict : v ≡ says.0
  -- the Reply fits its fields
  pub whole : IsWhole (m.Reply reply)

pub record FitsSettled (n last most : ℕ) (verdict : Option Verdict) : Type 0 where
  pub new : last < n
  pub known : n ≤ most
  pub v : Verdict
  pub applied_as : verdict ≡ Some v

pub record FitsDeposited (n a : ℕ) (opened : Bool) (last : ℕ × ℕ) (sum : ℕ) : Type 0 where
  pub known : opened ≡ true
  pub next : n ≡ last.0 + 1
  pub low : 1 ≤ a
  pub high : a ≤ 1000000000
  pub room : sum + a ≤ 1000000000000000

pub record FitsOrdered (j p last : ℕ) (waiting : Option ℕ) (most : ℕ) (oldest : Option JobState) : Type 0 where
  pub next : j ≡ last + 1
  pub idle : waiting ≡ None
  pub fresh : most < p
  -- the job in the cell is closed
  pub room : (nat_le 1024 last && is_open oldest) ≡ false

-- the job's device has this job open, and the bytes are a mark of the job
pub record FitsHeld (j : ℕ) (bytes : List ℕ) (C : List Commit) (job : Option Job) : Type 0 where
  pub at : Job
  pub job_is : job ≡ Some at
  pub open_is : open_job at.device C ≡ Some j
  pub mark : IsMarkOf at bytes

-- all blocks are in use, and none holds the piece
abbrev pub is_full : ℕ → ℕ → List (ℕ × ℕ) → Bool
is_full d p xs = nat_le 1024 (length xs) && is_none (block_place d (block_of p) xs)

pub record FitsAccepted (d p : ℕ) (before : Option ℕ) (key : Option (List ℕ)) (blocks : List (ℕ × ℕ)) : Type 0 where
  pub new : before ≡ None
  pub known : (k : List ℕ) × (key ≡ Some k)
  pub room : is_full d p blocks ≡ false

abbrev pub Fits : Rules → Commit → List Commit → Type 0
Fits ρ (Made d k) C = key_of d C ≡ None
Fits ρ (Asked d n r) C = FitsAsked ρ d n r (key_of d C) (pending d C) (number d C) (loaded d C) (descending d C) (refunded d C) (ascending d C) (last_day d C) (phase d C) (customer d C)
Fits ρ (Applied d n v) C = FitsApplied n v (pending d C) (ruling_of d n C)
Fits ρ (Debited d p a k t v) C = FitsDebited ρ p a t v (key_of d C) (pieces d C) (ascending d C) (descending d C) (pending d C) (phase d C) (last_day d C) (deadline d C)
Fits ρ (Registered d o k) C = registered d C ≡ None
Fits ρ (Opened w) C = opened w C ≡ false
Fits ρ (Deposited w n a) C = FitsDeposited n a (opened w C) (receipt w C) (deposits w C)
Fits ρ (Flagged w s) C = opened w C ≡ true
Fits ρ (Ruled d n v r) C = FitsRuled n v r (ruled d C) (note_of d n C) (registered d C) (verdict C (request_in r)) (reply_to C (request_in r))
Fits ρ (Settled d n) C = FitsSettled n (settled d C) (ruled d C) (applied_of d n C)
Fits ρ (Ordered j d p a k) C = FitsOrdered j p (last_job C) (open_job d C) (top d C) (state_of (last_job C - 1023) C)
Fits ρ (Held j x) C = FitsHeld j x C (job_of j C)
Fits ρ (Began j) C = state_of j C ≡ Some HeldJob
Fits ρ (Closed j) C = (s : JobState) × (state_of j C ≡ Some s) × (is_open (Some s) ≡ true)
Fits ρ (Trusted d k) C = trusted d C ≡ None
Fits ρ (Accepted d p s) C = FitsAccepted d p (accepted d p C) (trusted d C) (blocks C)

-- each commit fits those before it, and its numbers fit their fields
abbrev pub Good : Rules → List Commit → Type 0
Good ρ [] = Unit {0}
Good ρ (c ∷ C) = Fits ρ c C × Good ρ C × InRange c
