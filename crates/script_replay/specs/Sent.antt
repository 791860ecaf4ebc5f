-- How many messages events send: one each at most.
use Rattle.std.proofs.Common.{◌≡◌, ℕ, ◌+◌, ◌≤◌, List, [], ◌∷◌, length, Option, Some, None, ap, ◌∙◌, arith}
use Rattle.std.proofs.lemmas.List.{length-append}
use Rattle.bench.specs.Benches.{Nodes}
use Rattle.bench.specs.Steps.{notes_of, notes_in}
use Rattle.script_replay.specs.Chains.{DidEvents, SceneOf}
use Rattle.line_extensions.specs.Trace.{StepRecord}
use Rattle.node_turns.specs.Turns.{sent_in}

one_note : (o : Option (List ℕ)) → length (notes_of o) ≤ 1
one_note None = omega arith
one_note (Some note) = omega arith

module _ (n : Nodes) where
  pub sent_few : (old new : SceneOf n) (trace : List StepRecord) → DidEvents n old new trace
      → length new.bench.messages ≤ length old.bench.messages + length trace
  sent_few old new [] did = omega (arith, ap (λ (b : SceneOf n). length b.bench.messages) did)
  sent_few old new (d ∷ rest) did =
      let entries = did.1.turn.entries in
      let more : length did.0.bench.messages ≡ length old.bench.messages + length (notes_in entries) = ap
      (λ (l : List (List ℕ)). length l) did.1.steps.always.sends ∙ length-append old.bench.messages (notes_in entries) in
      omega (arith, more, one_note (sent_in entries), sent_few did.0 new rest did.2)
