-- Steps of the bench, as an extension has them done.
use Rattle.std.proofs.Common.{◌≡◌, inl, inr, ℕ, ◌+◌, ◌≤◌, List, [], ◌∷◌, ◌++◌, append-nil, length, refl, ◌∙◌, ap, subst, arith}
use Rattle.bench_base.specs.declared.events.Event.{Event}
use Rattle.bench_base.specs.declared.events.Event.TheVariants as ev
use Rattle.bench_base.specs.Replies.{MayGet}
use Rattle.node_turns.specs.declared.turn.Turn.{Turn}
use Rattle.bench_abstraction.specs.Routing.{as_given}
use Rattle.bench.specs.Benches.{Bench, Nodes}
use Rattle.bench.proofs.Notes.{scan_names}
use Rattle.line_runs.specs.declared.{status.Status.Status, status.SideStatus.SideStatus, status.SideStatus.TheVariants.Run, status.SideStatus.TheVariants.Stopped}
use Rattle.line_runs.specs.declared.status.Status.TheVariants as status
use Rattle.line_extensions.specs.Trace.{StepRecord}
use Rattle.line_extensions.specs.Desks.{World, SideLeaves}
use Rattle.line_extensions.specs.DeskLaws.{IsChain}
use Rattle.line_extensions.specs.Wants.{IsQuiet}
use Rattle.script_replay.specs.Chains.{Scene, DidEvents, SceneOf}
use Rattle.script_replay.specs.Run.{Leaves}
use Rattle.script_replay.specs.ScriptLaws.{all_done}
use Rattle.script_replay.specs.Sides.{StepsBy}
use Rattle.script_replay.specs.Sent.{sent_few}

module _ (n : Nodes) where
  pub is_chain : IsChain (StepsBy n) (DidEvents n)
  is_chain = record {
    nothing = λ b. refl;
    one = λ s t d turn did. (t, did.0, refl);
    both = (all_done n).both;
  }

  pub told : (s t : SceneOf n) (d : StepRecord) (turn : Turn) → StepsBy n s t d turn → d.reply ≡ turn.reply
  told s t d turn did = did.0.told ∙ ap (λ (x : Turn). x.reply) did.1

  pub sends : (s t : SceneOf n) (d : StepRecord) (turn : Turn) → StepsBy n s t d turn → length t.bench.messages ≤ length s.bench.messages + 1
  sends s t d turn did = let few = sent_few n s t (d ∷ []) (t, did.0, refl) in omega (arith, few)

  pub quiet : (s t : SceneOf n) (d : StepRecord) (turn : Turn) → StepsBy n s t d turn → IsQuiet d.event → length t.bench.messages ≤ length s.bench.messages
  quiet s t d turn did is =
      let always = did.0.steps.always in
      let gets : MayGet (ev.ScanHex is.0 is.1) did.0.turn.reply = subst
      (λ (e : Event). MayGet (as_given s.bench.messages e) did.0.turn.reply) is.2 always.reply in
      let same : t.bench.messages ≡ s.bench.messages =
      always.sends ∙ ap (λ (l : List (List ℕ)). s.bench.messages ++ l) (always.quiet (scan_names is.0 is.1 did.0.turn.reply gets))
      ∙ append-nil s.bench.messages in
      let as_many = ap (λ (l : List (List ℕ)). length l) same in omega (arith, as_many)

pub wants_none : {D C H V : Type 0} (s t : Scene D C H V) → Leaves (Run status.Memory) s t → length t.bench.messages ≤ length s.bench.messages
wants_none s t wants = let same = ap (λ (b : Bench _ _ _ _). length b.messages) wants.0 in omega (arith, same)

-- what the end of a run with an extension leaves of the bench
pub leaves_as : {D C H V K : Type 0} (outcome : SideStatus) (behind now : World (Scene D C H V) K)
    → SideLeaves (λ s t. Leaves (Run status.Memory) s t) outcome behind now
    → (s : Status) × Leaves (Run s) behind.scene now.scene
leaves_as (Run status.Done) behind now is = (status.Done, ap (λ (w : World _ _). w.scene) is)
leaves_as (Run status.Words) behind now is = (status.Words, ap (λ (w : World _ _). w.scene) is)
leaves_as (Run (status.Script line)) behind now is = (status.Script line, ap (λ (w : World _ _). w.scene) is)
leaves_as (Run status.ReadFault) behind now is = (status.ReadFault, ap (λ (w : World _ _). w.scene) is)
leaves_as (Run status.WriteFault) behind now is = (status.WriteFault, ap (λ (w : World _ _). w.scene) is)
leaves_as (Run status.Memory) behind now (same, inl is) = (status.Done, is)
leaves_as (Run status.Memory) behind now (same, inr is) = (status.Memory, is)
leaves_as (Run status.TooLong) behind now is = (status.TooLong, ap (λ (w : World _ _). w.scene) is)
leaves_as Stopped behind now is = (status.Done, ap (λ (w : World _ _). w.scene) is)
