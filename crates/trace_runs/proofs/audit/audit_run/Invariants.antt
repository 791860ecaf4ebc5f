use Rattle.std.proofs.Common.{◌≡◌, ◌-◌, ◌≤◌, length, take, drop}
use Rattle.std.specs.Io.KnownBytes.{prepend_known}
use Rattle.trace_bench.specs.Seeing.{IsReady, audit_of, keeps}
use Rattle.trace_runs.specs.Counted.{TookLines}
use Rattle.trace_runs.specs.Turns.{IsProgress}
use Rattle.trace_runs.proofs.audit.audit_run.Given as goal

abbrev pub invariant-loop-count : goal.invariant-loop-count
invariant-loop-count g l = record {
  ready : IsReady (audit_of l.auditor);
  kept : keeps (audit_of l.auditor) ≡ keeps (audit_of l.fn.auditor);
  few : length (audit_of l.auditor).messages ≤ l.count;
  counted : TookLines l.answers
      (prepend_known (take (l.fn.report.end - l.fn.report.at) (drop l.fn.report.at l.fn.report.buffer.items)) (g.R.Source.left l.fn.report.inner))
      (prepend_known (take (l.report.end - l.report.at) (drop l.report.at l.report.buffer.items)) (g.R.Source.left l.report.inner));
  few_answers : l.answers ≤ l.count;
  progress : IsProgress l.count l.fn.rates l.left (audit_of l.fn.auditor) (audit_of l.auditor) l.fn.imprints.items l.imprints.items
      (prepend_known (take (l.fn.script.end - l.fn.script.at) (drop l.fn.script.at l.fn.script.buffer.items)) (g.S.Source.left l.fn.script.inner))
      (prepend_known (take (l.script.end - l.script.at) (drop l.script.at l.script.buffer.items)) (g.S.Source.left l.script.inner))
      (prepend_known (take (l.fn.report.end - l.fn.report.at) (drop l.fn.report.at l.fn.report.buffer.items)) (g.R.Source.left l.fn.report.inner))
      (prepend_known (take (l.report.end - l.report.at) (drop l.report.at l.report.buffer.items)) (g.R.Source.left l.report.inner));
  script_later : g.S.Source.faults l.fn.script.inner ≤ g.S.Source.faults l.script.inner;
  report_later : g.R.Source.faults l.fn.report.inner ≤ g.R.Source.faults l.report.inner;
}
