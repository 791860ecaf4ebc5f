use Rattle.std.proofs.Common.{◌≡◌, ◌≤◌, length}
use Rattle.trace_bench.proofs.Shutting.{shut_first}
use Rattle.trace_bench.proofs.auditor.shut_all.Given as goal

abbrev pub invariant-loop-place : goal.invariant-loop-place
invariant-loop-place l = record { few : l.place ≤ length l.initial.devices.items; shut : l.devices.items ≡ shut_first l.place l.initial.devices.items }
