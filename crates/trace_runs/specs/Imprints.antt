-- What the printer was given in the events of a run.
use Rattle.std.specs.Prelude.{◌≡◌, ◌≢◌, ℕ, List, [], ◌∷◌, Option, Some, None, option_map}
use Rattle.bench_base.specs.declared.{events.Event.Event, events.Reply.Reply}
use Rattle.bench_base.specs.declared.events.Event.TheVariants as ev
use Rattle.bench_base.specs.declared.events.Reply.TheVariants as r
use Rattle.bench_base.specs.Ledger.{Ledger}
use Rattle.bench_base.specs.Rules.{todays_rules, editions}
use Rattle.ledger_moves.specs.Tariffs.{Tariff}
use Rattle.ledger_moves.specs.Histories.{History}
use Rattle.ledger_moves.specs.Moves.{plan}
use Rattle.node_turns.specs.Printing.{print_of}
use Rattle.script_text.specs.Texts.{text_of}
use Rattle.trace_bench.specs.Seeing.{Audit, Sees}
use Rattle.trace_bench.specs.Stopping.{IsPrefixOf}
use Rattle.trace_runs.specs.declared.{imprint.Given.Given, imprint.Imprint.Imprint, imprint.Printed.Printed, imprint.Printed.TheVariants.Whole, imprint.Printed.TheVariants.Part}

-- a mark with its whole line taken, or with a part of it, since the printer failed
abbrev pub taken_whole : List ℕ → Given
taken_whole mark = record { mark = mark; taken = Whole }

abbrev pub taken_in_part : List ℕ → Given
taken_in_part mark = record { mark = mark; taken = Part }

-- In an event with this reply and a plan that prints this mark, the printer was given this. It is the mark, if the reply is `printed` or a printer
-- fault, and nothing otherwise.
pub record IsGiven (reply : Reply) (mark : Option (List ℕ)) (given : Option Given) : Type 0 where
  pub whole : (job : ℕ) → reply ≡ r.Printed job → (x : List ℕ) × (mark ≡ Some x) × (given ≡ Some (taken_whole x))
  pub cut : (job : ℕ) → reply ≡ r.PrinterFault job → (x : List ℕ) × (mark ≡ Some x) × (given ≡ Some (taken_in_part x))
  pub none : ((job : ℕ) → reply ≢ r.Printed job) → ((job : ℕ) → reply ≢ r.PrinterFault job) → given ≡ None

-- What the printer took in a `print` of this job, if the report ends with this prefix of its answer. It took the whole line of the mark, if
-- `printed` alone begins so. Otherwise it took none, some or all of it.
pub data IsTaken (j : ℕ) (prefix : List ℕ) : Printed → Type 0 where
  whole : IsPrefixOf prefix (text_of (r.Printed j)) → (IsPrefixOf prefix (text_of (r.PrinterFault j)) → ⊥) → IsTaken j prefix Whole
  part : (IsPrefixOf prefix (text_of (r.Printed j)) → IsPrefixOf prefix (text_of (r.PrinterFault j))) → IsTaken j prefix Part

-- the printer was given this mark there, and took so much of it; or nothing, if no mark is due
abbrev pub IsGivenAt : ℕ → List ℕ → Option (List ℕ) → Option Given → Type 0
IsGivenAt j prefix None given = given ≡ None
IsGivenAt j prefix (Some mark) given = (taken : Printed) × IsTaken j prefix taken × (given ≡ Some (record { mark = mark; taken = taken }))

-- What the printer was given where the report ends with this prefix of the event's line: in a `print` the mark that its plan prints, if it
-- prints one; and nothing in any other event.
pub record IsLeftOpen (τ : Tariff) (H : Ledger) (e : Event) (prefix : List ℕ) (given : Option Given) : Type 0 where
  pub print : (j : ℕ) → e ≡ ev.Print j → IsGivenAt j prefix (print_of (plan τ todays_rules H (ev.Print j) []).after) given
  pub other : ((j : ℕ) → e ≢ ev.Print j) → given ≡ None

-- what was given for the line of this number
abbrev pub imprint_at : ℕ → Option Given → List Imprint
imprint_at number None = []
imprint_at number (Some given) = record { line = number; given = given } ∷ []

-- == by the bytes ==

-- the mark is the one that the plan of a `print` prints, at each history that the auditor has
abbrev pub IsDueMark : Audit → Event → Option (List ℕ) → Type 0
IsDueMark a e due = (j : ℕ) → e ≡ ev.Print j → (τ : Tariff) (H : Ledger) → History τ editions H → Sees a H
    → print_of (plan τ todays_rules H (ev.Print j) []).after ≡ due

-- a `print` with a plan that prints this mark, and with this line of the report, gave this; any other event gave nothing
pub record GivesSo (e : Event) (due : Option (List ℕ)) (line : List ℕ) (given : Option Given) : Type 0 where
  pub whole : (j : ℕ) → e ≡ ev.Print j → text_of (r.Printed j) ≡ line → given ≡ option_map taken_whole due
  pub cut : (j : ℕ) → e ≡ ev.Print j → text_of (r.PrinterFault j) ≡ line → text_of (r.Printed j) ≢ line → given ≡ option_map taken_in_part due
  pub none : ((j : ℕ) → e ≡ ev.Print j → (text_of (r.Printed j) ≢ line) × (text_of (r.PrinterFault j) ≢ line)) → given ≡ None

-- a `print` with a plan that prints this mark gave this, if the report ends with this prefix of its line; any other event gave nothing
pub record LeavesOpen (e : Event) (due : Option (List ℕ)) (prefix : List ℕ) (given : Option Given) : Type 0 where
  pub print : (j : ℕ) → e ≡ ev.Print j → IsGivenAt j prefix due given
  pub other : ((j : ℕ) → e ≢ ev.Print j) → given ≡ None
