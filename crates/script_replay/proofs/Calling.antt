-- What a run did, by the words that the program was called with.
use Rattle.std.proofs.Common.{◌≡◌, ℕ, List, [], Option, Some, sym, ◌∙◌, subst}
use Rattle.script_text.specs.declared.{program.Words.Words, program.Words.TheVariants.Replay, program.Words.TheVariants.Generate}
use Rattle.script_text.specs.Programs.{program_words, AreInRange}
use Rattle.line_extensions.specs.Trace.{StepRecord, done_in}
use Rattle.script_replay.specs.Generated.{Generated}
use Rattle.line_runs.specs.Runs.{Replayed}
use Rattle.line_extensions.specs.Scripts.{script_lines}
use Rattle.script_replay.specs.Streams.{Streams, AreNone, Ran}
use Rattle.line_runs.specs.declared.{status.Status.Status, status.SideStatus.TheVariants.Run}
use Rattle.line_runs.proofs.Turns.{said}

-- the words call for one thing
pub apart : (seed count : ℕ) → program_words Replay ≡ program_words (Generate seed count) → ⊥
apart seed count is = cc

module _ (outcome : Status) (given : List (List ℕ)) (WasDone : List StepRecord → Type 0) (before now : Streams) where
  pub ran_replay : given ≡ program_words Replay → Replayed script_lines (Run outcome) (λ trace. WasDone (done_in trace)) before.left now.left before.taken now.taken → Ran outcome given WasDone before now
  ran_replay is r = record {
    replays = λ same. r;
    generates = λ seed count within other. absurd (apart seed count (sym is ∙ other));
    nothing = λ none. absurd (none Replay tt is);
  }

  pub ran_generate : (seed count : ℕ) (read : Option Words) → read ≡ Some (Generate seed count) → ((w : Words) → AreInRange w → given ≡ program_words w → read ≡ Some w)
      → AreInRange (Generate seed count) → given ≡ program_words (Generate seed count) → Generated outcome seed count WasDone before.taken now.taken → Ran outcome given WasDone before now
  ran_generate seed count read found only within is r = record {
    replays = λ other. absurd (apart seed count (sym other ∙ is));
    generates = λ s n range same.
        let one : Some (Generate seed count) ≡ Some (Generate s n) = sym found ∙ only (Generate s n) range same in
        let first : seed ≡ s = cc in
        let second : count ≡ n = cc in
        subst (λ (x : ℕ). Generated outcome x n WasDone before.taken now.taken) first (subst (λ (x : ℕ). Generated outcome seed x WasDone before.taken now.taken) second r);
    nothing = λ none. absurd (none (Generate seed count) within is);
  }

  pub ran_nothing : AreNone given → WasDone [] → Ran outcome given WasDone before now
  ran_nothing none did = record {
    replays = λ is. absurd (none Replay tt is);
    generates = λ seed count within is. absurd (none (Generate seed count) within is);
    nothing = λ same. did;
  }

-- the same steps, with more said of them
pub generated_said : (P Q : List StepRecord → Type 0) (outcome : Status) (seed count : ℕ) (t u : Option (List ℕ)) → ((trace : List StepRecord) → P trace → Q trace) → Generated outcome seed count P t u
    → Generated outcome seed count Q t u
generated_said P Q outcome seed count t u more r =
    record { done = r.done; all = r.all; unforged = r.unforged; text = r.text; ends = r.ends; appended = r.appended; did = more _ r.did }

pub all_said : (P Q : List StepRecord → Type 0) (outcome : Status) (given : List (List ℕ)) (before now : Streams) → ((trace : List StepRecord) → P trace → Q trace) → Ran outcome given P before now
    → Ran outcome given Q before now
all_said P Q outcome given before now more r = record {
  replays = λ is. said script_lines (λ trace. P (done_in trace)) (λ trace. Q (done_in trace)) (Run outcome) before.left now.left before.taken now.taken (λ trace. more (done_in trace)) (r.replays is);
  generates = λ seed count within is. generated_said P Q outcome seed count before.taken now.taken more (r.generates seed count within is);
  nothing = λ none. more [] (r.nothing none);
}

-- what the words were read as
pub read_as : (given : List (List ℕ)) (w v : Words) → w ≡ v → AreInRange w × (given ≡ program_words w) → AreInRange v × (given ≡ program_words v)
read_as given w v is found = subst (λ (x : Words). AreInRange x × (given ≡ program_words x)) is found
