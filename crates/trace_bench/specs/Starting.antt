-- An auditor that starts from records of the nodes.
use Rattle.std.specs.Prelude.{◌≡◌, List, [], false, None, map}
use Rattle.trace_nodes.specs.declared.traced.Traced.{Traced}
use Rattle.trace_device.specs.declared.record.DeviceRecord.{DeviceRecord}
use Rattle.trace_centre.specs.declared.record.CentreRecord.{CentreRecord}
use Rattle.trace_host.specs.declared.record.HostRecord.{HostRecord}
use Rattle.trace_verifier.specs.declared.record.ScanRecord.{ScanRecord}
use Rattle.trace_bench.specs.Known.{IsBlank}
use Rattle.trace_bench.specs.Seeing.{Audit, keeps}

-- a node that has this record, is off, and has no change open
abbrev pub at_rest : {R X : Type 0} → R → Traced R X
at_rest {R} {X} r = record { «record» = r; «open» = None; on = false }

-- the auditor has such nodes with these records; no day, no rates, no messages, and nothing of what was sent and released before
pub record StartsFrom (records : List DeviceRecord) (c : CentreRecord) (h : HostRecord) (v : ScanRecord) (a : Audit) : Type 0 where
  pub day : a.day ≡ None
  pub messages : a.messages ≡ []
  pub rates : a.rates ≡ None
  pub devices : a.devices ≡ map (λ r. at_rest r) records
  pub centre : a.centre ≡ at_rest c
  pub host : a.host ≡ at_rest h
  pub verifier : a.verifier ≡ at_rest v
  pub unknown : IsBlank a.known
  pub unkept : keeps a ≡ record { all = false; seen = [] }
