-- A device that was judged in its place.
use Rattle.std.specs.Prelude.{◌≡◌, ℕ, ℤ, ◌+◌, List, Some, Result, slice_get, slice_set}
use Rattle.bench_base.specs.declared.events.Reply.{Reply}
use Rattle.node_acts.specs.declared.asked.Asked.{Asked}
use Rattle.psd_state.specs.State.{State}
use Rattle.centre_ledger.specs.declared.rows.Row.{Row}
use Rattle.bench_abstraction.specs.declared.calls.DeviceCall.{DeviceCall}
use Rattle.bench_abstraction.specs.Comparing.{compare}
use Rattle.node_turns.specs.declared.turn.Turn.{Turn}
use Rattle.trace_nodes.specs.declared.traced.Traced.{Traced}
use Rattle.trace_device.specs.declared.record.DeviceRecord.{DeviceRecord}
use Rattle.trace_device.specs.Records.{view_of}
use Rattle.trace_device.specs.Verdicts.{IsByLedger}
use Rattle.trace_centre.specs.declared.record.CentreRecord.{CentreRecord}
use Rattle.trace_centre.specs.Cells as centre

-- the line was judged of device d, which is the one in this place
pub record DeviceJudged {T : Type 0} (IsOf : T → Turn → Type 0) (d : ℕ) (today : ℤ) (asked : Asked DeviceCall) (line : List ℕ)
    (old new : List (Traced DeviceRecord State)) (result : Result T Reply) : Type 0 where
  pub place : ℕ
  pub is_device : d ≡ place + 1
  pub before : Traced DeviceRecord State
  pub now : Traced DeviceRecord State
  pub was : slice_get old place ≡ Some before
  pub set : new ≡ slice_set old place now
  pub by_ledger : IsByLedger IsOf d today asked line (view_of before) (view_of now) result

-- the reply is what device d, which is the one in its place, and the centre show
abbrev pub ComparesInPlace : ℕ → List (Traced DeviceRecord State) → Traced CentreRecord Row → Reply → Type 0
ComparesInPlace d devices c reply = (i : ℕ) (s : Traced DeviceRecord State) → d ≡ i + 1 → slice_get devices i ≡ Some s
    → reply ≡ compare d (view_of s) (centre.view_of c)
