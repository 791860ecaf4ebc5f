-- The cells of the host's record, and the host in its place, as the bench sees the host.
use Rattle.node_acts.specs.Views.{View}
use Rattle.host_jobs.specs.declared.rows.JobRow.{JobRow}
use Rattle.host_jobs.specs.Seen.{Seen, counting}
use Rattle.trace_nodes.specs.declared.traced.Traced.{Traced}
use Rattle.trace_nodes.specs.TracedNodes as traces
use Rattle.trace_host.specs.Records.{IsFit}
use Rattle.trace_host.specs.declared.record.HostRecord.{HostRecord}

abbrev pub cells_of : HostRecord → Seen
cells_of r = r.cells.items

-- what the traced node shows of the host
abbrev pub view_of : Traced HostRecord JobRow → View Seen
view_of traced = traces.view_of counting cells_of traced

-- a host that is on has no open change, and its record can take one that is open
abbrev pub IsSettled : Traced HostRecord JobRow → Type 0
IsSettled traced = traces.IsSettled counting (λ s x. IsFit s x) cells_of traced
