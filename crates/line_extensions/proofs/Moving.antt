-- What is so of each move that an extension's own definitions allow is so of each in a run.
use Rattle.std.proofs.Common.{List, [], ◌∷◌}
use Rattle.bench_base.specs.declared.events.Event.{Event}
use Rattle.node_turns.specs.declared.turn.Turn.{Turn}
use Rattle.line_extensions.specs.Trace.{StepRecord, Skipped, Did}
use Rattle.line_extensions.specs.Desks.{World, world, Asks, DoesOne, Does}
use Rattle.line_extensions.specs.Moves.{EachAsked, EachIn, EachMove}
use Rattle.line_extensions.specs.SideTrace.{SideStep, Plain, Own, Broken}
use Rattle.line_extensions.specs.declared.{extension.Extension.Ghosts, extension.Next.Next, extension.Next.TheVariants.Say, extension.Next.TheVariants.Stop}

module _ {K T : Type 0} (k : Ghosts K T) {B : Type 0} (Steps : B → B → StepRecord → Turn → Type 0) (Moves : K → K → Type 0)
    (begins : (s t : K) (own : k.Own) (next : Next) → k.Begins s own next t → Moves s t) (goes : (s t : K) (turn : Turn) (next : Next) → k.Goes s turn next t → Moves s t)
    (sees : (s t : K) (e : Event) (turn : Turn) → k.Sees s e turn t → Moves s t) where
  each_asked : (old new : World B K) (next : Next) (steps : List StepRecord) (last : Next) (asks : Asks k Steps old new next steps last) → EachAsked k Steps Moves old new next steps last asks
  each_asked old new next [] last asks = tt
  each_asked old new next (d ∷ rest) last asks = (goes old.desk asks.0.desk asks.2.turn asks.1 asks.2.goes, each_asked asks.0 new asks.1 rest last asks.3)

  each_in : (old new : World B K) (x : SideStep k.Own) (did : DoesOne k Steps old new x) → EachIn k Steps Moves old new x did
  each_in old new (Plain (Skipped line)) did = tt
  each_in old new (Plain (Did line d)) did = sees old.desk new.desk d.event did.turn did.sees
  each_in old new (Own line own steps texts) did =
      (begins old.desk did.did.desk own did.did.first did.did.begins, each_asked (world old.scene did.did.desk) new did.did.first steps Say did.did.asks)
  each_in old new (Broken line own steps) did = (begins old.desk did.desk own did.first did.begins, each_asked (world old.scene did.desk) new did.first steps Stop did.asks)

  pub each_move : (old new : World B K) (trace : List (SideStep k.Own)) (did : Does k Steps old new trace) → EachMove k Steps Moves old new trace did
  each_move old new [] did = tt
  each_move old new (x ∷ rest) did = (each_in old did.0 x did.1, each_move did.0 new rest did.2)
