-- The record after a commit of an act is one that storage can show, where the record before it and what the act commits are.
use Rattle.std.specs.Prelude.{IfSome}
use Rattle.bench_base.specs.declared.events.Reply.{Reply}
use Rattle.node_acts.specs.declared.{act.Act.Act, said.Said.Said}
use Rattle.node_acts.specs.Views.{View}
use Rattle.node_acts.specs.Acts.{commit_of}
use Rattle.node_acts.proofs.OfCommits.{of_commit}
use Rattle.psd_state.specs.Seen.{Seen, counting}
use Rattle.psd_state.specs.State.{State}
use Rattle.bench_abstraction.specs.Devices.{IsKnown}
use Rattle.trace_device.specs.Records.{HoldsAct}
use Rattle.trace_nodes.proofs.Acts as each
use Rattle.bench_base.proofs.Facts.{room_left}

pub commit_known : (v : View Seen) (act : Act State Reply Said) → IsKnown v.state → HoldsAct act → IfSome (commit_of counting v act) (λ y. IsKnown y.1)
commit_known v act known holds = each.commit_known counting IsKnown v act (of_commit _ _ act holds (λ c x held worn. record { few = room_left v.state.count known.few worn; holds = held }))
