-- The lines of a script of events, and how steps are read and written.
use Rattle.std.specs.Prelude.{◌≢◌, ◌⊎◌}
use Rattle.bench_base.specs.declared.events.Event.{Event}
use Rattle.bench_base.specs.declared.events.Event.TheVariants as event
use Rattle.script_text.specs.Grammar.{Spells, IsSkipped}
use Rattle.line_runs.specs.Trace.{Grammar, Lines}
use Rattle.line_extensions.specs.Trace.{TraceStep, line_in, text_for, IsOf, IsEnd, GoesOn}
use Rattle.line_extensions.specs.Events.{IsLineOf, IsBad}

-- A run goes on after a line that is skipped or is that of another event than `end`; and memory may run out at one of `rates`.
abbrev pub script_grammar : Grammar
script_grammar = record {
  IsEndLine = λ line. Spells event.End line;
  IsPassing = λ line. IsSkipped line ⊎ ((e : Event) × IsLineOf e line × (e ≢ event.End));
  IsBad = λ line. IsBad line;
  MayWant = λ line. IsLineOf event.Rates line;
}

-- no step is broken off, since there is no storage but those of the nodes
abbrev pub script_lines : Lines TraceStep
script_lines = record {
  grammar = script_grammar;
  line_in = λ d. line_in d;
  text_for = λ d. text_for d;
  IsOf = λ d. IsOf d;
  IsEnd = λ d. IsEnd d;
  GoesOn = λ d. GoesOn d;
  IsBroken = λ d. ⊥;
}
