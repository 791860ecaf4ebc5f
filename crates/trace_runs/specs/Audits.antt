-- What may be done for the lines of a script, by the ledger, the rates that are left and the prints.
use Rattle.std.specs.Prelude.{◌≡◌, ℕ, List, [], ◌∷◌, length, drop}
use Rattle.bench_base.specs.Ledger.{Ledger, day_in}
use Rattle.bench_base.specs.Replies.{class_of}
use Rattle.bench_base.specs.Rules.{todays_rules}
use Rattle.ledger_moves.specs.Tariffs.{Tariff}
use Rattle.ledger_moves.specs.Moves.{Moves, plan}
use Rattle.ledger_moves.specs.Histories.{Unforged}
use Rattle.node_turns.specs.Printing.{print_of}
use Rattle.script_text.specs.Texts.{text_of, IsWholeReply}
use Rattle.line_extensions.specs.Trace.{StepRecord}
use Rattle.script_replay.specs.Trace.{ledger_by}
use Rattle.script_replay.specs.Marks.{IsPrinted}
use Rattle.trace_bench.specs.Judging.{taken_by}

-- the event may get this reply there, the numbers of the reply are in range, the event contains nothing forged, and it takes this of the rates
pub record MayTell (τ : Tariff) (H : Ledger) (left : List ℕ) (d : StepRecord) : Type 0 where
  pub unforged : Unforged d.event H
  pub moves : Moves τ todays_rules H d.event d.text d.reply
  pub whole : IsWholeReply d.reply
  pub takes : d.text ≡ taken_by d.event (day_in H) (class_of d.reply) left

-- and prints this
pub record MayDo (τ : Tariff) (H : Ledger) (left : List ℕ) (d : StepRecord) : Type 0 where
  pub tells : MayTell τ H left d
  pub prints : IsPrinted d.reply (print_of (plan τ todays_rules H d.event d.text).after) d.printed

-- so may each in turn
abbrev pub IsRun : Tariff → Ledger → List ℕ → List StepRecord → Type 0
IsRun τ H left [] = Unit {0}
IsRun τ H left (d ∷ rest) = MayDo τ H left d × IsRun τ (ledger_by τ H d) (drop (length d.text) left) rest

-- two of the same event and the same line of the report; and so two lists, one by one
abbrev pub IsAlike : StepRecord → StepRecord → Type 0
IsAlike d f = (d.event ≡ f.event) × (text_of d.reply ≡ text_of f.reply)

abbrev pub AreAlike : List StepRecord → List StepRecord → Type 0
AreAlike [] [] = Unit {0}
AreAlike [] (f ∷ others) = ⊥
AreAlike (d ∷ trace) [] = ⊥
AreAlike (d ∷ trace) (f ∷ others) = IsAlike d f × AreAlike trace others
