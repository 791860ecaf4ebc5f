-- What became of one line of a script of events.
use Rattle.std.proofs.Common.{ℕ, List, [], ◌∷◌, Option, None, refl}
use Rattle.std.proofs.KnownBytes.{Appends-nil}
use Rattle.script_text.specs.Grammar.{IsSkipped}
use Rattle.script_text.specs.Texts.{IsWholeReply}
use Rattle.line_runs.specs.Turns.{AreDone, Reported, DidLine}
use Rattle.line_runs.specs.declared.status.SideStatus.{SideStatus}
use Rattle.line_extensions.specs.Trace.{StepRecord, TraceStep, Did, Skipped, line_of, IsEnd, GoesOn}
use Rattle.line_extensions.specs.Events.{IsLineOf}
use Rattle.line_extensions.specs.Scripts.{script_lines}

module _ {B : Type 0} (Does : B → B → List TraceStep → Type 0) (Leaves : SideStatus → B → B → Type 0) (chain : AreDone Does Leaves) where
  -- a line that is skipped is done
  pub line_skipped : (skips : (b : B) (line : List ℕ) → Does b b (Skipped line ∷ [])) (b : B) (line : List ℕ) (taken : Option (List ℕ)) → IsSkipped line → DidLine script_lines Does line None b b taken taken
  line_skipped skips b line taken is =
      record { trace_step = Skipped line; line_is = refl; is = is; did = skips b line; reported = (tt, Appends-nil taken) }

  -- an event was done for the line
  pub line_done : (outcome : Option SideStatus) (old new : B) (taken0 taken1 : Option (List ℕ)) (line : List ℕ) (d : StepRecord)
      → IsLineOf d.event line → IsWholeReply d.reply → Does old new (Did line d ∷ []) → Reported outcome (GoesOn (Did line d)) (IsEnd (Did line d)) ⊥ (line_of d.reply) taken0 taken1
      → DidLine script_lines Does line outcome old new taken0 taken1
  line_done outcome old new taken0 taken1 line d is whole did reported =
      record { trace_step = Did line d; line_is = refl; is = (is, whole); did = did; reported = reported }
