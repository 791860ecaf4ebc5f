-- A bench with an extension has the lines of a line handler; and what the bench did of them are the steps that were asked for.
use Rattle.std.proofs.Common.{◌≢◌, inl, inr, ℕ, List, [], ◌∷◌, ◌++◌, refl, sym, ap, subst}
use Rattle.line_runs.specs.Trace.{FitsGrammar}
use Rattle.line_runs.specs.Turns.{AreDone}
use Rattle.line_runs.specs.declared.status.Status.TheVariants as status
use Rattle.line_runs.specs.declared.{status.SideStatus.SideStatus, status.SideStatus.TheVariants.Run, status.SideStatus.TheVariants.Stopped}
use Rattle.line_extensions.specs.Trace.{StepRecord, Skipped, Did}
use Rattle.line_extensions.specs.Scripts.{script_grammar}
use Rattle.line_extensions.specs.ScriptLaws as script
use Rattle.line_extensions.specs.SideTrace.{SideStep, Plain, Own, Broken, side_line, SideIsOf, SideIsEnd, SideGoesOn, steps_in, steps_of}
use Rattle.line_extensions.specs.Desks.{World, world, SideLeaves, side_grammar, side_lines, Asks, DoesOne, Does}
use Rattle.line_extensions.specs.Wants.{IsAlone}
use Rattle.node_turns.specs.declared.turn.Turn.{Turn}
use Rattle.line_extensions.specs.declared.{extension.Extension.Ghosts, extension.Next.Next}

-- what says that events were done follows from what says that one step was done
pub record IsChain {B : Type 0} (Steps : B → B → StepRecord → Turn → Type 0) (DidEvents : B → B → List StepRecord → Type 0) : Type 0 where
  pub nothing : (b : B) → DidEvents b b []
  pub one : (s t : B) (d : StepRecord) (turn : Turn) → Steps s t d turn → DidEvents s t (d ∷ [])
  pub both : (x y z : B) (a b : List StepRecord) → DidEvents x y a → DidEvents y z b → DidEvents x z (a ++ b)

side_leaves_same : {B K : Type 0} (Wants : B → B → Type 0) (s : SideStatus) (b : World B K) → s ≢ Run status.Memory → SideLeaves Wants s b b
side_leaves_same Wants (Run status.Done) b other = refl
side_leaves_same Wants (Run status.Words) b other = refl
side_leaves_same Wants (Run (status.Script line)) b other = refl
side_leaves_same Wants (Run status.ReadFault) b other = refl
side_leaves_same Wants (Run status.WriteFault) b other = refl
side_leaves_same Wants (Run status.Memory) b other = absurd (other refl)
side_leaves_same Wants (Run status.TooLong) b other = refl
side_leaves_same Wants Stopped b other = refl

module _ {K T : Type 0} (k : Ghosts K T) (alone : (own : k.Own) (line : List ℕ) → k.IsOwn own line → IsAlone line) where
  end_not_passing : (line : List ℕ) → script_grammar.IsEndLine line → (side_grammar k).IsPassing line → ⊥
  end_not_passing line l (inl passing) = script.is_grammar.end_not_passing line l passing
  end_not_passing line l (inr own) = (alone own.0 line own.1).not_end l

  passing_not_bad : (line : List ℕ) → (side_grammar k).IsPassing line → (side_grammar k).IsBad line → ⊥
  passing_not_bad line (inl passing) bad = script.is_grammar.passing_not_bad line passing bad.0
  passing_not_bad line (inr own) bad = bad.1 own.0 own.1

  end_wants_none : (line : List ℕ) → script_grammar.IsEndLine line → (side_grammar k).MayWant line → ⊥
  end_wants_none line l (inl rates) = script.is_grammar.end_wants_none line l rates
  end_wants_none line l (inr own) = (alone own.0 line own.1).not_end l

  goes_on : (d : SideStep k.Own) → SideIsOf k.IsOwn d → SideGoesOn d → (side_grammar k).IsPassing (side_line d)
  goes_on (Plain d) is goes = inl (script.script_fits.goes_on d is goes)
  goes_on (Own line own steps texts) is goes = inr (own, is)
  goes_on (Broken line own steps) is goes = absurd goes

  ends : (d : SideStep k.Own) → SideIsOf k.IsOwn d → SideIsEnd d → script_grammar.IsEndLine (side_line d)
  ends (Plain d) is end = script.script_fits.ends d is end
  ends (Own line own steps texts) is end = absurd end
  ends (Broken line own steps) is end = absurd end

  pub side_fits : FitsGrammar (side_lines k)
  side_fits = record {
    grammar = record {
      end_short = script.is_grammar.end_short;
      end_not_passing = end_not_passing;
      end_not_bad = λ line l bad. script.is_grammar.end_not_bad line l bad.0;
      passing_not_bad = passing_not_bad;
      end_wants_none = end_wants_none;
    };
    goes_on = goes_on;
    ends = ends;
  }

module _ {K T : Type 0} (k : Ghosts K T) {B : Type 0} (Steps : B → B → StepRecord → Turn → Type 0) where
  both : (x y z : World B K) (a b : List (SideStep k.Own)) → Does k Steps x y a → Does k Steps y z b → Does k Steps x z (a ++ b)
  both x y z [] b p q = subst (λ (w : World B K). Does k Steps w z b) p q
  both x y z (d ∷ a) b p q = (p.0, p.1, both p.0 y z a b p.2 q)

  pub side_done : (Wants : B → B → Type 0) → AreDone (Does k Steps) (SideLeaves Wants)
  side_done Wants = record { nothing = λ b. refl; both = both; rests = side_leaves_same Wants }

  -- == what the bench did ==

  -- `DidEvents` says that the bench did events by steps, one after the other
  module _ (DidEvents : B → B → List StepRecord → Type 0) (chain : IsChain Steps DidEvents) where
    asked_steps : (old new : World B K) (next : Next) (steps : List StepRecord) (last : Next) → Asks k Steps old new next steps last
        → DidEvents old.scene new.scene steps
    asked_steps old new next [] last asks = subst (λ (b : B). DidEvents old.scene b []) (ap (λ (w : World B K). w.scene) (sym asks.1)) (chain.nothing old.scene)
    asked_steps old new next (d ∷ rest) last asks =
        chain.both old.scene asks.0.scene new.scene (d ∷ []) rest (chain.one old.scene asks.0.scene d asks.2.turn asks.2.did)
        (asked_steps asks.0 new asks.1 rest last asks.3)

    one_step : (old new : World B K) (d : SideStep k.Own) → DoesOne k Steps old new d → DidEvents old.scene new.scene (steps_in d)
    one_step old new (Plain (Skipped line)) did = subst (λ (b : B). DidEvents old.scene b []) (ap (λ (w : World B K). w.scene) (sym did))
        (chain.nothing old.scene)
    one_step old new (Plain (Did line d)) did = chain.one old.scene new.scene d did.turn did.did
    one_step old new (Own line own steps texts) did = asked_steps (world old.scene did.did.desk) new did.did.first steps _ did.did.asks
    one_step old new (Broken line own steps) did = asked_steps (world old.scene did.desk) new did.first steps _ did.asks

    -- the bench did the events of the steps
    pub bench_part : (old new : World B K) (trace : List (SideStep k.Own)) → Does k Steps old new trace → DidEvents old.scene new.scene (steps_of trace)
    bench_part old new [] did = subst (λ (b : B). DidEvents old.scene b []) (ap (λ (w : World B K). w.scene) (sym did)) (chain.nothing old.scene)
    bench_part old new (d ∷ rest) did = chain.both old.scene did.0.scene new.scene (steps_in d) (steps_of rest) (one_step old did.0 d did.1)
        (bench_part did.0 new rest did.2)
