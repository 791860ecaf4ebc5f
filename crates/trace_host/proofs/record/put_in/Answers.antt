use Rattle.std.proofs.Common.{◌≡◌, ◌<◌, ◌^◌, ◌+◌, Some, set, sym, ◌∙◌, ap, subst, arith}
use Rattle.node_acts.specs.RowList.{RowList, put, commits_at}
use Rattle.host_jobs.specs.declared.rows.JobRow.{JobRow}
use Rattle.host_jobs.specs.Rows.{Jobs}
use Rattle.host_jobs.specs.Seen.{cell_of}
use Rattle.trace_host.specs.Records.{AreJoined}
use Rattle.trace_host.proofs.Joined.{joined_put, total_few, put_is}
use Rattle.trace_host.proofs.record.put_in.Goals as goal

pub overflow_add-total : goal.overflow_add-total
overflow_add-total c = let few : c.args.total.now < 2 ^ 48 = total_few c.args.cells.now.items c.args.jobs.now c.args.total.now c.requires.joined in omega arith

pub returns-clause-joined : goal.returns-clause-joined
returns-clause-joined c =
    let s = c.args.cells.now.items in
    let x = c.args.row.now in
    let same : set s c.cell_of-cell.result (Some (c.count_of-count.result + 1, x)) ≡ put s (cell_of x) x =
    put_is s c.cell_of-cell.result c.index.result.now c.count_of-count.result x c.cell_of-cell.ensures.value (omega (arith, c.cell_of-cell.ensures.inside, c.requires.joined.long)) (c.count_of-count.ensures ∙ ap commits_at c.index.ensures) in
    subst (λ (t : RowList JobRow). AreJoined t c.put.new.rows (c.args.total.now + 1)) (sym same)
    (subst (λ (b : Jobs). AreJoined (put s (cell_of x) x) b (c.args.total.now + 1)) (sym c.put.ensures.rows)
    (joined_put s c.args.jobs.now c.args.total.now c.requires.joined x c.requires.room))
