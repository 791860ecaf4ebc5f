-- The cells of the centre's record, and the centre in its place, as the bench sees the centre.
use Rattle.node_acts.specs.Views.{View}
use Rattle.centre_ledger.specs.declared.rows.Row.{Row}
use Rattle.centre_ledger.specs.Seen.{Seen, counting}
use Rattle.trace_nodes.specs.declared.traced.Traced.{Traced}
use Rattle.trace_nodes.specs.TracedNodes as traces
use Rattle.trace_centre.specs.Records.{IsFit}
use Rattle.trace_centre.specs.declared.record.CentreRecord.{CentreRecord}

abbrev pub cells_of : CentreRecord → Seen
cells_of r = r.cells

-- what the traced node shows of the centre
abbrev pub view_of : Traced CentreRecord Row → View Seen
view_of traced = traces.view_of counting cells_of traced

-- a centre that is on has no open change, and its record can take one that is open
abbrev pub IsSettled : Traced CentreRecord Row → Type 0
IsSettled traced = traces.IsSettled counting (λ s x. IsFit s x) cells_of traced
