-- The cells of the verifier's record, and the verifier in its place, as the bench sees the verifier.
use Rattle.node_acts.specs.Views.{View}
use Rattle.verifier.specs.declared.acts.Change.{Change}
use Rattle.verifier.specs.ActLaws.{IsFit}
use Rattle.verifier.specs.Seen.{Seen, counting}
use Rattle.trace_nodes.specs.declared.traced.Traced.{Traced}
use Rattle.trace_nodes.specs.TracedNodes as traces
use Rattle.trace_verifier.specs.Helds.{seen_by}
use Rattle.trace_verifier.specs.declared.record.ScanRecord.{ScanRecord}

abbrev pub cells_of : ScanRecord → Seen
cells_of r = seen_by r.cells.items

-- what the traced node shows of the verifier
abbrev pub view_of : Traced ScanRecord Change → View Seen
view_of traced = traces.view_of counting cells_of traced

-- a verifier that is on has no open change, and its record can take one that is open
abbrev pub IsSettled : Traced ScanRecord Change → Type 0
IsSettled traced = traces.IsSettled counting (λ s x. IsFit s x) cells_of traced
