use Rattle.std.proofs.Common.{rules, List, length, refl, sym, ◌∙◌, ap, subst}
use Rattle.std.proofs.lemmas.List.{length-map}
use Rattle.psd_state.specs.State.{State}
use Rattle.centre_ledger.specs.declared.rows.Row.{Row}
use Rattle.host_jobs.specs.declared.rows.JobRow.{JobRow}
use Rattle.verifier.specs.declared.acts.Change.{Change}
use Rattle.trace_nodes.specs.declared.traced.Traced.{Traced}
use Rattle.trace_device.specs.declared.record.DeviceRecord.{DeviceRecord}
use Rattle.trace_centre.specs.declared.record.CentreRecord.{CentreRecord}
use Rattle.trace_centre.specs.Cells as centre
use Rattle.trace_host.specs.declared.record.HostRecord.{HostRecord}
use Rattle.trace_host.specs.Cells as host
use Rattle.trace_verifier.specs.declared.record.ScanRecord.{ScanRecord}
use Rattle.trace_verifier.specs.Cells as verifier
use Rattle.trace_bench.specs.Seeing.{AreSettled}
use Rattle.trace_bench.specs.Starting.{at_rest}
use Rattle.trace_bench.proofs.Starts.{all_settled}
use Rattle.trace_bench.proofs.auditor.Auditor.of_records.Goals as goal

pub returns-clause-ready : goal.returns-clause-ready
returns-clause-ready c = record {
  eight = ap (λ (l : List (Traced DeviceRecord State)). length l) c.in_ok-devices.ensures ∙ length-map c.args.devices (λ r. at_rest r) ∙ search rules;
  devices = subst AreSettled (sym c.in_ok-devices.ensures) (all_settled c.args.devices);
  centre = subst (λ (s : Traced CentreRecord Row). centre.IsSettled s) (sym c.resting.ensures) (record { closed = λ on. refl; takes = tt });
  host = subst (λ (s : Traced HostRecord JobRow). host.IsSettled s) (sym c.resting-2.ensures) (record { closed = λ on. refl; takes = tt });
  verifier = subst (λ (s : Traced ScanRecord Change). verifier.IsSettled s) (sym c.resting-3.ensures) (record { closed = λ on. refl; takes = tt });
}
