use Rattle.std.proofs.Common.{◌≤◌, take, flat_map}
use Rattle.std.specs.Io.KnownBytes.{Appends}
use Rattle.line_runs.specs.Lines.{ended}
use Rattle.line_extensions.proofs.side.put_texts.Given as goal

abbrev pub invariant-loop-number : goal.invariant-loop-number
invariant-loop-number g l = record {
  written : Appends (g.K.Sink.taken l.fn.report) (g.K.Sink.taken l.report) (flat_map ended (take l.number (g.D.Extension.texts l.desk)));
  later : g.K.Sink.faults l.fn.report ≤ g.K.Sink.faults l.report;
}
