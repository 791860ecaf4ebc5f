-- The host, as the ledger shows it to the bench, and what a call of it does by that alone. Postage is in mills.
use Rattle.bench_base.specs.declared.{words.Node.TheVariants.Host, events.Reply.Reply}
use Rattle.node_acts.specs.declared.{act.Act.Act, said.Said.Said}
use Rattle.node_acts.specs.Said.{kind_by}
use Rattle.node_acts.specs.Kinds.{Kind}
use Rattle.host_jobs.specs.declared.rows.JobRow.{JobRow}
use Rattle.host_jobs.specs.Rows.{Jobs}
use Rattle.host_jobs.specs.Records.{seen_after}
use Rattle.host_jobs.specs.Seen.{Seen, counting, rows_in}
use Rattle.host_jobs.specs.Acts as acts
use Rattle.host_jobs.specs.Plans.{says, told_ordered, told_sent, told_printed, told_closed, told_held}
use Rattle.bench_abstraction.specs.declared.calls.HostCall.{HostCall}
use Rattle.bench_abstraction.specs.declared.calls.HostCall.TheVariants as call

abbrev pub host_act : HostCall → Jobs → Act JobRow Reply Said
host_act (call.Order c) rows = says told_ordered (acts.order_act c.device c.piece c.class c.price rows)
host_act (call.Send c) rows = says (told_sent c.job c.message) (acts.debit_message_act c.job rows)
host_act (call.Print c) rows = says (told_printed c.job) (acts.begin_print_act c.job rows)
host_act (call.Close c) rows = says (told_closed c.job) (acts.close_act c.job rows)
host_act (call.Take c) rows = says told_held (acts.take_act c.bytes rows)

abbrev pub host_kind : Kind (Unit {0}) Seen HostCall
host_kind = kind_by counting (λ u. Host) (λ u. seen_after) (λ u today c s. host_act c (rows_in s))
