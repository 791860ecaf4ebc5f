-- Steps of a run with an extension: for each line what the bench did by steps, and for an own line of the extension its answer too.
use Rattle.std.specs.Prelude.{ℕ, List, [], ◌∷◌, flat_map}
use Rattle.line_runs.specs.Lines.{ended}
use Rattle.line_extensions.specs.Trace.{StepRecord, TraceStep, done_in, line_in, text_for, IsOf, IsEnd, GoesOn}

-- a line that is skipped or is an event; an own line that was answered by these texts; and one where a commit of the extension's storage failed
pub data SideStep (L : Type 0) : Type 0 where
  Plain : (d : TraceStep) → SideStep L
  Own : (line : List ℕ) (own : L) (steps : List StepRecord) (texts : List (List ℕ)) → SideStep L
  Broken : (line : List ℕ) (own : L) (steps : List StepRecord) → SideStep L

module _ {L : Type 0} where
  abbrev pub side_line : SideStep L → List ℕ
  side_line (Plain d) = line_in d
  side_line (Own line own steps texts) = line
  side_line (Broken line own steps) = line

  -- the answer, each text of it with its line end
  abbrev pub side_text : SideStep L → List ℕ
  side_text (Plain d) = text_for d
  side_text (Own line own steps texts) = flat_map ended texts
  side_text (Broken line own steps) = []

  abbrev pub SideIsOf : (L → List ℕ → Type 0) → SideStep L → Type 0
  SideIsOf IsOwn (Plain d) = IsOf d
  SideIsOf IsOwn (Own line own steps texts) = IsOwn own line
  SideIsOf IsOwn (Broken line own steps) = IsOwn own line

  abbrev pub SideIsEnd : SideStep L → Type 0
  SideIsEnd (Plain d) = IsEnd d
  SideIsEnd (Own line own steps texts) = ⊥
  SideIsEnd (Broken line own steps) = ⊥

  abbrev pub SideGoesOn : SideStep L → Type 0
  SideGoesOn (Plain d) = GoesOn d
  SideGoesOn (Own line own steps texts) = Unit {0}
  SideGoesOn (Broken line own steps) = ⊥

  abbrev pub IsBroken : SideStep L → Type 0
  IsBroken (Plain d) = ⊥
  IsBroken (Own line own steps texts) = ⊥
  IsBroken (Broken line own steps) = Unit {0}

  -- what the bench did for it
  abbrev pub steps_in : SideStep L → List StepRecord
  steps_in (Plain d) = done_in (d ∷ [])
  steps_in (Own line own steps texts) = steps
  steps_in (Broken line own steps) = steps

  abbrev pub steps_of : List (SideStep L) → List StepRecord
  steps_of trace = flat_map steps_in trace
