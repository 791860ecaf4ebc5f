-- The acts of the host's calls: what they commit, and which replies they may get.
use Rattle.std.proofs.Common.{refl}
use Rattle.std.specs.Prelude.{IfSome}
use Rattle.bench_base.specs.declared.{words.Node.TheVariants.Host, events.Reply.Reply}
use Rattle.node_acts.specs.declared.{act.Act.Act, said.Said.Said}
use Rattle.node_acts.specs.Acts.{commit_of}
use Rattle.node_acts.specs.Plans.{IsOfNode}
use Rattle.node_acts.specs.Said.{IsPlain}
use Rattle.node_acts.specs.Views.{View}
use Rattle.node_acts.proofs.OfCommits.{of_commit, commit_says}
use Rattle.trace_nodes.proofs.Acts as each
use Rattle.trace_nodes.proofs.Acts.{plain_says}
use Rattle.host_jobs.specs.declared.rows.JobRow.{JobRow}
use Rattle.host_jobs.specs.Acts as acts
use Rattle.host_jobs.specs.ActLaws.{LeavesSound, SoundActs}
use Rattle.host_jobs.specs.Rows.{Jobs}
use Rattle.host_jobs.specs.Seen.{Seen, rows_in, counting, IsKnown}
use Rattle.bench_abstraction.specs.declared.calls.HostCall.{HostCall}
use Rattle.bench_abstraction.specs.declared.calls.HostCall.TheVariants as call
use Rattle.bench_abstraction.specs.Host.{host_act}
use Rattle.trace_nodes.specs.TracedNodes.{FitsAct}
use Rattle.trace_host.specs.Records.{IsFit, IsRanged}
use Rattle.trace_host.proofs.Joined.{put_known}

pub leaves_by : (b : Jobs) → SoundActs b → (c : HostCall) → IsRanged c → LeavesSound b (host_act c b)
leaves_by b sound (call.Order c) ranged = commit_says _ _ _ (acts.order_act c.device c.piece c.class c.price b) (sound.ordered c.device c.piece c.class c.price ranged.0 ranged.1)
leaves_by b sound (call.Send c) ranged = commit_says _ _ _ (acts.debit_message_act c.job b) (sound.sent c.job)
leaves_by b sound (call.Print c) ranged = commit_says _ _ _ (acts.begin_print_act c.job b) (sound.begun c.job)
leaves_by b sound (call.Close c) ranged = commit_says _ _ _ (acts.close_act c.job b) (sound.closed c.job)
leaves_by b sound (call.Take c) ranged = commit_says _ _ _ (acts.take_act c.bytes b) (sound.taken c.bytes)

pub fits_by : {F A : Type 0} (s : Seen) (act : Act JobRow F A) → LeavesSound (rows_in s) act → FitsAct (λ t x. IsFit t x) s act
fits_by s act leaves = of_commit _ _ act leaves (λ c x left. left.0)

pub own_by : {F A : Type 0} (b : Jobs) (act : Act JobRow F A) → LeavesSound b act → IsOfNode Host act
own_by b act leaves = of_commit _ _ act leaves (λ c x left. left.1)

-- == what it says ==

pub call_plain : (c : HostCall) (b : Jobs) → IsPlain (host_act c b)
call_plain (call.Order c) b = plain_says _ _ (λ x. refl) (λ x. refl) (acts.order_act c.device c.piece c.class c.price b)
call_plain (call.Send c) b = plain_says _ _ (λ x. refl) (λ x. refl) (acts.debit_message_act c.job b)
call_plain (call.Print c) b = plain_says _ _ (λ x. refl) (λ x. refl) (acts.begin_print_act c.job b)
call_plain (call.Close c) b = plain_says _ _ (λ x. refl) (λ x. refl) (acts.close_act c.job b)
call_plain (call.Take c) b = plain_says _ _ (λ x. refl) (λ x. refl) (acts.take_act c.bytes b)

-- == the record after it ==

pub commit_known : (v : View Seen) (act : Act JobRow Reply Said) → IsKnown v.state → LeavesSound (rows_in v.state) act → IfSome (commit_of counting v act) (λ y. IsKnown y.1)
commit_known v act known leaves = each.commit_known counting IsKnown v act (of_commit _ _ act leaves (λ c x left worn. put_known v.state x known worn left.0))
