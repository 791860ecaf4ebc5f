use Rattle.std.proofs.Common.{◌<◌, ◌+◌, ℕ, Option, length, get_or, sym, ap, ◌∙◌, arith}
use Rattle.std.specs.Prelude.{max}
use Rattle.std.proofs.lemmas.List.{take_all}
use Rattle.host_jobs.specs.Rows.{Jobs, row_in, top_at, top_in}
use Rattle.host_jobs.specs.declared.rows.JobRow.{JobRow}
use Rattle.host_jobs.proofs.Walks.{greatest_more, tops_are}
use Rattle.host_jobs.proofs.joined.tops_of.Goals as goal

pub loop-cell-preserved : goal.loop-cell-preserved
loop-cell-preserved c =
    let rows = c.args.rows.now in
    let inside : c.loop-cell.cell < length rows = omega (arith, c.requires, c.loop-cell-test.true) in
    record {
      long = c.raise.array_long;
      tops = λ i lt.
          c.raise.ensures i lt ∙ ap (λ (o : Option JobRow). max (get_or c.loop-cell.tops i 0) (top_at (i + 1) o)) c.get.ensures
          ∙ ap (λ (n : ℕ). max n (top_at (i + 1) (row_in rows c.loop-cell.cell))) (c.loop-cell.invariant.tops i lt)
          ∙ sym (greatest_more rows c.loop-cell.cell inside (top_at (i + 1)));
    }

pub returns : goal.returns
returns c =
    let rows = c.args.rows.now in
    tops_are rows c.loop-cell.tops c.loop-cell.invariant.long (λ i lt.
    c.loop-cell.invariant.tops i lt ∙ ap (λ (l : Jobs). top_in (i + 1) l) (take_all c.loop-cell.cell rows (omega (arith, c.requires, c.loop-cell-test.false))))
