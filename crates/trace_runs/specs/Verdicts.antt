-- What an audit of one run says: how far the lines of a script and of its report were paired, and where that ended. This is by the bytes alone; the
-- rest is what may be so at each ledger that the auditor sees as the run begins.
use Rattle.std.specs.Prelude.{◌≡◌, ◌≢◌, ℕ, ◌+◌, ◌<◌, ◌≤◌, List, [], ◌∷◌, ◌++◌, length, map, drop, flat_map, false, Option, None}
use Rattle.std.specs.List.{AllByRecursion}
use Rattle.bench_base.specs.declared.{events.Event.Event, events.Reply.Reply, ledger.Entry.TheVariants.Begin, questions.Brought.TheVariants.Nothing}
use Rattle.bench_base.specs.declared.events.Event.TheVariants as ev
use Rattle.bench_base.specs.Events.{brought_by}
use Rattle.bench_base.specs.Ledger.{Ledger}
use Rattle.bench_base.specs.Rules.{todays_rules, editions}
use Rattle.bench_abstraction.specs.Tariff.{IsOfTexts}
use Rattle.ledger_moves.specs.Tariffs.{Tariff}
use Rattle.ledger_moves.specs.Histories.{History, Unforged}
use Rattle.ledger_moves.specs.Moves.{plan}
use Rattle.node_turns.specs.Printing.{print_of}
use Rattle.script_text.specs.Grammar.{IsSkipped}
use Rattle.script_text.specs.Texts.{text_of}
use Rattle.line_runs.specs.Ends.{lines_of, EndsAt}
use Rattle.line_runs.specs.Lines.{IsOneLine, ended}
use Rattle.line_runs.specs.declared.status.Status.{Status}
use Rattle.line_runs.specs.declared.status.Status.TheVariants as status
use Rattle.line_extensions.specs.Trace.{StepRecord}
use Rattle.line_extensions.specs.Events.{IsLineOf}
use Rattle.line_extensions.specs.Scripts.{script_grammar}
use Rattle.script_replay.specs.Trace.{ledger_by}
use Rattle.trace_bench.specs.Judging.{IsUntold}
use Rattle.trace_bench.specs.Stopping.{IsBegun, IsUnbegun}
use Rattle.trace_bench.specs.Seeing.{Audit, Sees, keeps}
use Rattle.trace_runs.specs.Between.{SeesBetween}
use Rattle.trace_runs.specs.Audits.{MayTell}
use Rattle.trace_runs.specs.Imprints.{IsGiven, IsLeftOpen, imprint_at}
use Rattle.trace_runs.specs.Reads.{IsRead, OfTexts}
use Rattle.trace_runs.specs.declared.{imprint.Given.Given, imprint.Imprint.Imprint, verdict.Ending.Ending, verdict.Ending.TheVariants.Done as Ended, verdict.Ending.TheVariants.Script, verdict.Ending.TheVariants.TooLong, verdict.Verdict.Verdict, verdict.Verdict.TheVariants.Lawful, verdict.Verdict.TheVariants.Stopped, verdict.Verdict.TheVariants.Wrong, verdict.Verdict.TheVariants.Forged, verdict.Verdict.TheVariants.Unkept, verdict.Verdict.TheVariants.More, verdict.Verdict.TheVariants.Memory, verdict.Verdict.TheVariants.Unread}

-- == lines of the script, each with its line of the report ==

-- a line that does nothing; or the line of an event, the line that the report has for it, and what the printer was given
pub data Pair : Type 0 where
  Skipped : (line : List ℕ) → Pair
  Answered : (line : List ℕ) (e : Event) (answer : List ℕ) (given : Option Given) → Pair

abbrev pub line_in : Pair → List ℕ
line_in (Skipped line) = line
line_in (Answered line e answer given) = line

abbrev pub text_for : Pair → List ℕ
text_for (Skipped line) = []
text_for (Answered line e answer given) = ended answer

-- the line is what the pair says it is; a run goes on after it
abbrev pub IsOf : Pair → Type 0
IsOf (Skipped line) = IsSkipped line
IsOf (Answered line e answer given) = IsLineOf e line × IsOneLine answer × ((e ≡ ev.End) → ⊥)

pub record IsPair (p : Pair) : Type 0 where
  pub one : IsOneLine (line_in p)
  pub short : length (line_in p) ≤ 600
  pub is : IsOf p

-- these are the first lines of the script, and theirs are the first of the report; these lines of the script and these bytes of the report are left
pub record IsPrefix (script report : List ℕ) (pairs : List Pair) (rest : List (List ℕ)) (told : List ℕ) : Type 0 where
  pub each : AllByRecursion IsPair pairs
  pub few : length pairs ≤ 1000000
  pub script_is : lines_of script ≡ map line_in pairs ++ rest
  pub report_is : report ≡ flat_map text_for pairs ++ told

-- == where an audit ends, by the bytes alone ==

-- how a run over the script ends
abbrev pub status_of : Ending → Status
status_of Ended = status.Done
status_of (Script line) = status.Script line
status_of TooLong = status.TooLong

-- the next line of the script, of this number, is that of an event
pub record IsEvent (number : ℕ) (rest : List (List ℕ)) (e : Event) : Type 0 where
  pub inside : number ≤ 1000000
  pub line : List ℕ
  pub more : List (List ℕ)
  pub rest_is : rest ≡ line ∷ more
  pub short : length line ≤ 600
  pub is : IsLineOf e line

-- the report has this line next, and these bytes after it
pub record HasLine (told answer behind : List ℕ) : Type 0 where
  pub one : IsOneLine answer
  pub is : told ≡ ended answer ++ behind

-- the report has a line next; or these bytes of one, which may be cut off there, or go on
pub data HasSome (told : List ℕ) : Type 0 where
  has_line : (answer behind : List ℕ) → HasLine told answer behind → HasSome told
  has_prefix : (prefix behind : List ℕ) → told ≡ prefix ++ behind → IsOneLine prefix → HasSome told

-- what the report has for the end of the script, and after it: a line for `end`, and nothing for any other end
abbrev pub HasEnd : Ending → List ℕ → List ℕ → Type 0
HasEnd Ended told behind = (answer : List ℕ) × HasLine told answer behind
HasEnd (Script line) told behind = told ≡ behind
HasEnd TooLong told behind = told ≡ behind

-- The script ends so at the line of this number, and the report has this after that end.
pub record EndsSo (number : ℕ) (rest : List (List ℕ)) (told : List ℕ) (end : Ending) (behind : List ℕ) : Type 0 where
  pub script : EndsAt script_grammar (status_of end) number rest
  pub report : HasEnd end told behind

-- The verdict falls at the line of this number, with these lines of the script and these bytes of the report left.
-- `Lawful`: the two end together.
-- `More`: the script ends so, and the report goes on after that.
-- `Stopped`: the report ends before the line end of the next answer, and this is open of what was printed.
-- `Wrong`: the report has a line for the next event, or ends before its line end, which the event can't get.
-- `Forged`, `Unkept`, `Memory`: there is a next event, which contains something forged, or contains bytes, or lacked memory.
-- `Unread`: the script or the report could not be read there.
abbrev pub FallsAt : ℕ → List (List ℕ) → List ℕ → Verdict → Type 0
FallsAt number rest told (Lawful end) = EndsSo number rest told end []
FallsAt number rest told (More n end) = (n ≡ number) × (behind : List ℕ) × EndsSo number rest told end behind × (0 < length behind)
FallsAt number rest told (Stopped n) = (n ≡ number) × (e : Event) × (given : Option Given) × IsEvent number rest e × IsOneLine told
FallsAt number rest told (Wrong n due) = (n ≡ number) × (e : Event) × IsEvent number rest e × HasSome told
FallsAt number rest told (Forged n) = (n ≡ number) × (e : Event) × IsEvent number rest e
FallsAt number rest told (Unkept n) = (n ≡ number) × (e : Event) × IsEvent number rest e × (brought_by e ≢ Nothing)
FallsAt number rest told Memory = (e : Event) × IsEvent number rest e
FallsAt number rest told (Unread input n) = n ≡ number

-- what is open of what was printed, where the run was stopped
abbrev pub last_given : (number : ℕ) (rest : List (List ℕ)) (told : List ℕ) (v : Verdict) → FallsAt number rest told v → Option Given
last_given number rest told (Lawful end) at = None
last_given number rest told (More n end) at = None
last_given number rest told (Stopped n) at = at.2
last_given number rest told (Wrong n due) at = None
last_given number rest told (Forged n) at = None
last_given number rest told (Unkept n) at = None
last_given number rest told Memory at = None
last_given number rest told (Unread input n) at = None

-- == what may be so ==

-- what may be done there for the event, with a reply of this line; the printer was given this with it
pub record IsAnswered (τ : Tariff) (H : Ledger) (left : List ℕ) (e : Event) (answer : List ℕ) (given : Option Given) (d : StepRecord) : Type 0 where
  pub event : d.event ≡ e
  pub text : text_of d.reply ≡ answer
  pub may : MayTell τ H left d
  pub gives : IsGiven d.reply (print_of (plan τ todays_rules H d.event d.text).after) given

-- Each event in turn, at the ledger and with the rates that those before it leave, may get a reply of its line, and contains nothing forged. And P
-- holds of the ledger and the rates after them.
abbrev pub TellsSo : Tariff → (Ledger → List ℕ → Type 0) → Ledger → List ℕ → List Pair → Type 0
TellsSo τ P H left [] = P H left
TellsSo τ P H left (Skipped line ∷ pairs) = TellsSo τ P H left pairs
TellsSo τ P H left (Answered line e answer given ∷ pairs) =
    (d : StepRecord) × IsAnswered τ H left e answer given d × TellsSo τ P (ledger_by τ H d) (drop (length d.text) left) pairs

-- At this ledger, with these rates left; the auditor is left so.
module _ (τ : Tariff) (H : Ledger) (left : List ℕ) (now : Audit) where
  -- `end` may get this line, and the auditor sees the ledger after it; at any other end it sees this one
  abbrev pub MayEnd : (end : Ending) (told behind : List ℕ) → HasEnd end told behind → Type 0
  MayEnd Ended told behind has = (d : StepRecord) × IsAnswered τ H left ev.End has.0 None d × Sees now (ledger_by τ H d)
  MayEnd (Script line) told behind has = Sees now H
  MayEnd TooLong told behind has = Sees now H

  -- the event may get no reply with the line of the report, or no reply with a line that begins with these bytes of it; this was the answer
  abbrev pub IsWrong : (e : Event) (due : Reply) (told : List ℕ) → HasSome told → Type 0
  IsWrong e due told (has_line answer behind line) = IsUntold τ H e left answer now due
  IsWrong e due told (has_prefix prefix behind is one) = IsUnbegun τ H e left prefix now due

  -- What the verdict says at the line at which it falls.
  -- `Lawful`, `More`: the end may be so.
  -- `Stopped`: the next event contains nothing forged, and what the report ends with may be the prefix of the line of a reply. The auditor sees a
  -- ledger that the event may have left, as `Leaves` says.
  -- `Wrong`: it contains nothing forged, and may not get what the report has.
  -- `Forged`: it contains something forged.
  -- `Unkept`: the auditor does not keep what was sent and released.
  abbrev pub IsSo : (number : ℕ) (rest : List (List ℕ)) (told : List ℕ) (v : Verdict) → FallsAt number rest told v → Type 0
  IsSo number rest told (Lawful end) at = MayEnd end told [] at.report
  IsSo number rest told (More n end) at = MayEnd end told at.1 at.2.report
  IsSo number rest told (Stopped n) at = Unforged at.1 H × IsBegun τ H at.1 left told now × IsLeftOpen τ H at.1 told at.2
  IsSo number rest told (Wrong n due) at = Unforged at.1 H × IsWrong at.1 due told at.3
  IsSo number rest told (Forged n) at = (Unforged at.1 H → ⊥) × Sees now H
  IsSo number rest told (Unkept n) at = ((keeps now).all ≡ false) × Sees now H
  IsSo number rest told Memory at = Unit {0}
  IsSo number rest told (Unread input n) at = Unit {0}

-- WHAT AN AUDIT SAYS of a script, its report and the rates: how far the two were paired and where the verdict falls. For each history that the
-- auditor sees as the run begins, by a tariff of texts, the pairs may be so, and what the verdict says there holds.
pub record Says (v : Verdict) (script report rates : List ℕ) (old new : Audit) : Type 0 where
  pub pairs : List Pair
  pub rest : List (List ℕ)
  pub told : List ℕ
  pub prefix : IsPrefix script report pairs rest told
  pub falls : FallsAt (length pairs + 1) rest told v
  pub so : (τ : Tariff) (H : Ledger) → IsOfTexts τ → History τ editions H → SeesBetween old H
      → TellsSo τ (λ K left. IsSo τ K left new (length pairs + 1) rest told v falls) (Begin ∷ H) rates pairs

-- what the printer was given in them, where the first is the line of this number
abbrev pub imprints_from : ℕ → List Pair → List Imprint
imprints_from number [] = []
imprints_from number (Skipped line ∷ pairs) = imprints_from (number + 1) pairs
imprints_from number (Answered line e answer given ∷ pairs) = imprint_at number given ++ imprints_from (number + 1) pairs

-- it says so, and what the printer was given was added after what it was given before; what is open of it follows that, if the run was stopped
pub record Audited (v : Verdict) (script report rates : List ℕ) (old new : Audit) (before after : List Imprint) : Type 0 where
  pub says : Says v script report rates old new
  pub prints : after ≡ before ++ (imprints_from 1 says.pairs ++ imprint_at (length says.pairs + 1)
      (last_given (length says.pairs + 1) says.rest says.told v says.falls))

-- WHAT AN AUDIT SAYS OF WHAT IT READ: it holds whatever follows that in the script and in the report, which is nothing if the end was seen.
pub record AuditedOf (v : Verdict) (script0 script1 report0 report1 : Option (List ℕ)) (rates : List ℕ) (old new : Audit)
    (before after : List Imprint) : Type 0 where
  pub script : IsRead script0 script1
  pub report : IsRead report0 report1
  pub so : OfTexts script (λ text lines. OfTexts report (λ answers told. Audited v text answers rates old new before after))
