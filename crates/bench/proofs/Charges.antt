-- A node that an event leaves as it was is charged with nothing.
use Rattle.std.proofs.Common.{◌≡◌, false, sym, ◌∙◌, true≢false, arith}
use Rattle.bench_base.specs.declared.{words.Node.Node, events.Event.Event, events.Reply.Reply}
use Rattle.bench_base.specs.Events.{calls_of}
use Rattle.bench_base.specs.Replies.{tells_power, tells_fault}
use Rattle.nv_model.specs.Meters.{Meters}
use Rattle.node_storage.proofs.Rests.{uses_none}
use Rattle.node_turns.specs.Costs.{Charged}

-- what was not charged was charged with nothing
pub rests_charged : (m : Node) (e : Event) (reply : Reply) (a : Meters) → tells_power m reply ≡ false → tells_fault m reply ≡ false → Charged m e reply a a
rests_charged m e reply a power fault = record {
  cuts = omega arith;
  faults = omega arith;
  fuse = λ cut. uses_none (calls_of e) a.fuse;
  power = λ claims. absurd (true≢false (sym claims ∙ power));
  fault = λ claims. absurd (true≢false (sym claims ∙ fault));
}
