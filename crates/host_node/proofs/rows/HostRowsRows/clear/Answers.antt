use Rattle.std.proofs.Common.{sym, subst}
use Rattle.host_jobs.specs.Rows.{Jobs, row_in}
use Rattle.host_jobs.specs.Soundness.{IsDerived}
use Rattle.host_node.specs.Payloads.{HoldRows}
use Rattle.host_node.specs.Cells.{none_hold}
use Rattle.host_node.proofs.rows.HostRowsRows.clear.Goals as goal

pub returns : goal.returns
returns c held none = record {
  filled = subst (λ (rows : Jobs). HoldRows (row_in rows) held) (sym c.clear.ensures) (none_hold held none);
  follows = subst (λ (rows : Jobs). IsDerived rows c.none-self.result) (sym c.clear.ensures) c.none-self.ensures;
}
