-- A bench with an extension, and what both did for the lines of a script. `Steps s t d turn` says that the bench, which was s and is t, did
-- this by one step with this turn. `Wants s t` says what is left of the bench if a `rates` runs out of memory.
use Rattle.std.specs.Prelude.{◌≡◌, ◌⊎◌, ℕ, List, [], ◌∷◌}
use Rattle.bench_base.specs.declared.events.Event.TheVariants as ev
use Rattle.node_turns.specs.declared.turn.Turn.{Turn}
use Rattle.line_runs.specs.Trace.{Grammar, Lines}
use Rattle.line_runs.specs.declared.status.Status.TheVariants as status
use Rattle.line_runs.specs.declared.{status.SideStatus.SideStatus, status.SideStatus.TheVariants.Run, status.SideStatus.TheVariants.Stopped}
use Rattle.line_extensions.specs.Trace.{StepRecord, Skipped, Did}
use Rattle.line_extensions.specs.Events.{IsLineOf}
use Rattle.line_extensions.specs.Scripts.{script_grammar}
use Rattle.line_extensions.specs.SideTrace.{SideStep, Plain, Own, Broken, side_line, side_text, SideIsOf, SideIsEnd, SideGoesOn, IsBroken}
use Rattle.line_extensions.specs.declared.{extension.Extension.Ghosts, extension.Next.Next, extension.Next.TheVariants.Step, extension.Next.TheVariants.Say, extension.Next.TheVariants.Stop}

pub record World (B K : Type 0) : Type 0 where
  pub scene : B
  pub desk : K

abbrev pub world : {B K : Type 0} → B → K → World B K
world scene desk = record { scene = scene; desk = desk }

-- what a run leaves, by its end: for lack of memory, which a `rates` or an own line may find, some of the rates may be taken
abbrev pub SideLeaves : {B K : Type 0} → (B → B → Type 0) → SideStatus → World B K → World B K → Type 0
SideLeaves Wants (Run status.Done) behind now = now ≡ behind
SideLeaves Wants (Run status.Words) behind now = now ≡ behind
SideLeaves Wants (Run (status.Script line)) behind now = now ≡ behind
SideLeaves Wants (Run status.ReadFault) behind now = now ≡ behind
SideLeaves Wants (Run status.WriteFault) behind now = now ≡ behind
SideLeaves Wants (Run status.Memory) behind now = (now.desk ≡ behind.desk) × ((now.scene ≡ behind.scene) ⊎ Wants behind.scene now.scene)
SideLeaves Wants (Run status.TooLong) behind now = now ≡ behind
SideLeaves Wants Stopped behind now = now ≡ behind

module _ {K T : Type 0} (k : Ghosts K T) where
  -- the lines of a script are those that are events, and the extension's own
  abbrev pub side_grammar : Grammar
  side_grammar = record {
    IsEndLine = λ line. script_grammar.IsEndLine line;
    IsPassing = λ line. script_grammar.IsPassing line ⊎ ((own : k.Own) × k.IsOwn own line);
    IsBad = λ line. script_grammar.IsBad line × ((own : k.Own) → k.IsOwn own line → ⊥);
    MayWant = λ line. IsLineOf ev.Rates line ⊎ ((own : k.Own) × k.IsOwn own line × k.MayWant own);
  }

  abbrev pub side_lines : Lines (SideStep k.Own)
  side_lines = record {
    grammar = side_grammar;
    line_in = λ d. side_line d;
    text_for = λ d. side_text d;
    IsOf = λ d. SideIsOf k.IsOwn d;
    IsEnd = λ d. SideIsEnd d;
    GoesOn = λ d. SideGoesOn d;
    IsBroken = λ d. IsBroken d;
  }

  module _ {B : Type 0} (Steps : B → B → StepRecord → Turn → Type 0) where
    -- the extension asked for a step, the bench did it and reported it, and the extension went on
    pub record Asked (old new : World B K) (next : Next) (d : StepRecord) (more : Next) : Type 0 where
      pub asks : next ≡ Step d.event
      pub turn : Turn
      pub did : Steps old.scene new.scene d turn
      pub goes : k.Goes old.desk turn more new.desk

    -- from what it asked for first to what it asks for last these steps were done
    abbrev pub Asks : World B K → World B K → Next → List StepRecord → Next → Type 0
    Asks old new next [] last = (last ≡ next) × (new ≡ old)
    Asks old new next (d ∷ rest) last = (mid : World B K) × (more : Next) × Asked old mid next d more × Asks mid new more rest last

    pub record DidOwn (old new : World B K) (own : k.Own) (steps : List StepRecord) (last : Next) : Type 0 where
      pub first : Next
      pub desk : K
      pub begins : k.Begins old.desk own first desk
      pub asks : Asks (world old.scene desk) new first steps last

    pub record DidPlain (old new : World B K) (line : List ℕ) (d : StepRecord) : Type 0 where
      pub passes : k.Passes old.desk line
      pub turn : Turn
      pub did : Steps old.scene new.scene d turn
      pub sees : k.Sees old.desk d.event turn new.desk

    -- the answer is the extension's
    pub record Answered (old new : World B K) (own : k.Own) (steps : List StepRecord) (texts : List (List ℕ)) : Type 0 where
      pub did : DidOwn old new own steps Say
      pub answer : texts ≡ k.texts new.desk

    abbrev pub DoesOne : World B K → World B K → SideStep k.Own → Type 0
    DoesOne old new (Plain (Skipped line)) = new ≡ old
    DoesOne old new (Plain (Did line d)) = DidPlain old new line d
    DoesOne old new (Own line own steps texts) = Answered old new own steps texts
    DoesOne old new (Broken line own steps) = DidOwn old new own steps Stop

    abbrev pub Does : World B K → World B K → List (SideStep k.Own) → Type 0
    Does old new [] = new ≡ old
    Does old new (x ∷ rest) = (mid : World B K) × DoesOne old mid x × Does mid new rest
