-- What is so of each move of an extension in a run: as it begins a line, goes on after a step, and sees an event.
use Rattle.std.specs.Prelude.{List, [], ◌∷◌}
use Rattle.node_turns.specs.declared.turn.Turn.{Turn}
use Rattle.line_extensions.specs.Trace.{StepRecord, Skipped, Did}
use Rattle.line_extensions.specs.Desks.{World, world, Asks, DoesOne, Does}
use Rattle.line_extensions.specs.SideTrace.{SideStep, Plain, Own, Broken}
use Rattle.line_extensions.specs.declared.{extension.Extension.Ghosts, extension.Next.Next, extension.Next.TheVariants.Say, extension.Next.TheVariants.Stop}

module _ {K T : Type 0} (k : Ghosts K T) {B : Type 0} (Steps : B → B → StepRecord → Turn → Type 0) (Moves : K → K → Type 0) where
  -- of each step that it asked for
  abbrev pub EachAsked : (old new : World B K) (next : Next) (steps : List StepRecord) (last : Next) → Asks k Steps old new next steps last → Type 0
  EachAsked old new next [] last asks = Unit {0}
  EachAsked old new next (d ∷ rest) last asks = Moves old.desk asks.0.desk × EachAsked asks.0 new asks.1 rest last asks.3

  -- of a line
  abbrev pub EachIn : (old new : World B K) (x : SideStep k.Own) → DoesOne k Steps old new x → Type 0
  EachIn old new (Plain (Skipped line)) did = Unit {0}
  EachIn old new (Plain (Did line d)) did = Moves old.desk new.desk
  EachIn old new (Own line own steps texts) did = Moves old.desk did.did.desk
      × EachAsked (world old.scene did.did.desk) new did.did.first steps Say did.did.asks
  EachIn old new (Broken line own steps) did = Moves old.desk did.desk × EachAsked (world old.scene did.desk) new did.first steps Stop did.asks

  -- of all lines
  abbrev pub EachMove : (old new : World B K) (trace : List (SideStep k.Own)) → Does k Steps old new trace → Type 0
  EachMove old new [] did = Unit {0}
  EachMove old new (x ∷ rest) did = EachIn old did.0 x did.1 × EachMove did.0 new rest did.2
