use Rattle.std.proofs.Common.{sym, subst}
use Rattle.host_jobs.specs.Rows.{Jobs}
use Rattle.host_jobs.specs.Soundness.{IsDerived}
use Rattle.trace_host.proofs.Blank.{blank_joined}
use Rattle.trace_host.proofs.record.HostRecord.blank.Goals as goal

pub invariant_of-result : goal.invariant_of-result
invariant_of-result c = record {
  joined = blank_joined _ _ c.in_ok-cells.ensures c.in_ok-jobs.ensures;
  follows = subst (λ (rows : Jobs). IsDerived rows c.none.result) (sym c.in_ok-jobs.ensures) c.none.ensures;
}
