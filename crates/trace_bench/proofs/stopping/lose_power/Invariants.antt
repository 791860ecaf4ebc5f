use Rattle.std.proofs.Common.{◌≡◌, ◌≤◌}
use Rattle.trace_bench.specs.Prefixes.{NoneBelow}
use Rattle.trace_bench.specs.Judging.{AtEach}
use Rattle.trace_bench.specs.Seeing.{IsReady, Sees, audit_of, keeps}
use Rattle.trace_bench.proofs.stopping.lose_power.Given as goal

abbrev pub invariant-loop-number : goal.invariant-loop-number
invariant-loop-number l = record {
  ready : IsReady (audit_of l.auditor);
  kept : keeps (audit_of l.auditor) ≡ keeps (audit_of l.fn.auditor);
  first : 1 ≤ l.number;
  unsent : (audit_of l.auditor).messages ≡ (audit_of l.fn.auditor).messages;
  rests : AtEach (audit_of l.fn.auditor) l.event (λ τ H. NoneBelow τ H l.event l.left l.number l.prefix × Sees (audit_of l.auditor) H);
}
