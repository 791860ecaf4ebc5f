use Rattle.std.proofs.Common.{None, false, refl, ap}
use Rattle.psd_state.specs.Seen.{Seen}
use Rattle.trace_bench.proofs.auditor.blank_device.Goals as goal

pub returns : goal.returns
returns c = record {
  settled = record { closed = λ on. refl; takes = tt };
  blank = λ d. ap (λ (s : Seen). record { state = s; next = None; on = false }) (c.blank.ensures d);
}
