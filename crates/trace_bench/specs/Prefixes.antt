-- Which replies begin with bytes, of those that may come for an event.
use Rattle.std.specs.Prelude.{◌≡◌, ℕ, ℤ, ◌<◌, List, [], Bool, true, false, ◌⊎◌, Option, Some, None}
use Rattle.bench_base.specs.declared.{words.Node.Node, words.Node.TheVariants.Device, words.Node.TheVariants.Centre, words.Node.TheVariants.Host, words.Node.TheVariants.Verifier, events.Event.Event, events.Reply.Reply}
use Rattle.bench_base.specs.declared.events.Reply.TheVariants as r
use Rattle.bench_base.specs.Ranges.{IsNode}
use Rattle.bench_base.specs.Replies.{Did}
use Rattle.bench_base.specs.Rules.{todays_rules}
use Rattle.bench_base.specs.Ledger.{Ledger, day_in}
use Rattle.ledger_moves.specs.Tariffs.{Tariff}
use Rattle.ledger_moves.specs.Moves.{OtherUp, FailsToRead, answer}
use Rattle.script_text.specs.Texts.{text_of, IsWholeReply}
use Rattle.trace_bench.specs.Judging.{MayGet, ledger_with, taken_by}
use Rattle.trace_bench.specs.Seeing.{Audit, Sees}
use Rattle.trace_bench.specs.Stopping.{IsPrefixOf, MayBegin}

-- the number of a node among all
abbrev pub number_of : Node → ℕ
number_of (Device d) = d
number_of Centre = 9
number_of Host = 10
number_of Verifier = 11

-- == beside the answer ==

-- a reply that has P; or no reply has P
abbrev pub IsFound : (Reply → Type 0) → Option Reply → Type 0
IsFound P (Some reply) = P reply
IsFound P None = (reply : Reply) → P reply → ⊥

-- this reply begins so, and its numbers are in range
abbrev pub Begins : List ℕ → Reply → Type 0
Begins prefix reply = IsWholeReply reply × IsPrefixOf prefix (text_of reply)

-- the answer with one commit more, where one is open
abbrev pub BeginsOtherUp : Reply → Ledger → List ℕ → Reply → Type 0
BeginsOtherUp due H prefix reply = OtherUp due reply H × Begins prefix reply

-- that the printer failed, in the place of a print
abbrev pub BeginsCutPrint : Reply → List ℕ → Reply → Type 0
BeginsCutPrint due prefix reply = ((job : ℕ) × (due ≡ r.Printed job) × (reply ≡ r.PrinterFault job)) × Begins prefix reply

-- that the rates can't be read
abbrev pub BeginsRatesFault : Event → Option ℤ → List ℕ → Reply → Type 0
BeginsRatesFault e day prefix reply = FailsToRead e reply day × Begins prefix reply

-- both `up`s of the node, without its open commit and with it
abbrev pub BeginsBothUps : Reply → Ledger → List ℕ → Type 0
BeginsBothUps due H prefix = Begins prefix due × (reply : Reply) × BeginsOtherUp due H prefix reply

-- a failure of this node
abbrev pub BeginsFailure : List ℕ → Node → Type 0
BeginsFailure prefix m = IsPrefixOf prefix (text_of (r.Power m)) ⊎ IsPrefixOf prefix (text_of (r.Fault m))

-- the reply is a failure of this node
abbrev pub IsFailure : Reply → Node → Type 0
IsFailure reply m = (reply ≡ r.Power m) ⊎ (reply ≡ r.Fault m)

-- == by the ledger ==

module _ (τ : Tariff) (H : Ledger) (e : Event) (left : List ℕ) where
  -- this is the answer
  abbrev pub IsDue : Reply → Type 0
  IsDue due = due ≡ answer τ todays_rules H e (taken_by e (day_in H) Did left)

  -- no reply begins so but that a node fails
  abbrev pub OnlyFails : List ℕ → Type 0
  OnlyFails prefix = (reply : Reply) → MayBegin τ H e left prefix reply → (m : Node) × IsFailure reply m

  -- a reply that is no failure of a node, and that may begin so; or none does
  abbrev pub Comes : List ℕ → Option Reply → Type 0
  Comes prefix (Some reply) = MayBegin τ H e left prefix reply
  Comes prefix None = OnlyFails prefix

  -- the node may lose its power in the event
  abbrev pub MayLose : List ℕ → Node → Type 0
  MayLose prefix m = IsNode m × MayGet τ H e left prefix (r.Power m)

  -- the event was recorded as one in which the node lost its power; or it can't be one, and the auditor has what it had
  abbrev pub LosesAt : Node → Audit → Bool → Type 0
  LosesAt m a true = MayGet τ H e left [] (r.Power m) × Sees a (ledger_with τ H e left [] (r.Power m))
  LosesAt m a false = (MayGet τ H e left [] (r.Power m) → ⊥) × Sees a H

  -- the event was recorded as one in which the node lost its power, and a failure of the node begins so; or no such record is possible, and the
  -- auditor has what it had
  abbrev pub LosesThere : List ℕ → Node → Audit → Bool → Type 0
  LosesThere prefix m a true = MayLose prefix m × BeginsFailure prefix m × Sees a (ledger_with τ H e left prefix (r.Power m))
  LosesThere prefix m a false = (MayLose prefix m → BeginsFailure prefix m → ⊥) × Sees a H

  -- no node with a number below this may lose its power, if its failure begins so
  abbrev pub NoneBelow : ℕ → List ℕ → Type 0
  NoneBelow number prefix = (m : Node) → number_of m < number → MayLose prefix m → BeginsFailure prefix m → ⊥

  -- the event was recorded as one in which some node lost its power, and a failure of that node begins so; or no such record is possible, and the
  -- auditor has what it had
  abbrev pub Loses : List ℕ → Audit → Bool → Type 0
  Loses prefix a true = (m : Node) × MayLose prefix m × BeginsFailure prefix m × Sees a (ledger_with τ H e left prefix (r.Power m))
  Loses prefix a false = ((m : Node) → MayLose prefix m → BeginsFailure prefix m → ⊥) × Sees a H
