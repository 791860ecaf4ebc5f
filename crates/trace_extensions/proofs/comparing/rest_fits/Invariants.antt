use Rattle.std.proofs.Common.{◌≡◌, ◌-◌, ◌≤◌, take, drop}
use Rattle.std.specs.Io.KnownBytes.{prepend_known}
use Rattle.trace_extensions.proofs.Compared.{ReadTo}
use Rattle.trace_extensions.proofs.Cuts.{CutFrom}
use Rattle.trace_extensions.proofs.Texts.{LeftFrom, AreLines}
use Rattle.trace_extensions.proofs.comparing.rest_fits.Given as goal

abbrev pub invariant-loop-at : goal.invariant-loop-at
invariant-loop-at g l = record {
  some : 1 ≤ l.at;
  read : ReadTo (g.D.Extension.texts l.desk) l.at
      (prepend_known (take (l.fn.papers.report.end - l.fn.papers.report.at) (drop l.fn.papers.report.at l.fn.papers.report.buffer.items)) (g.R.Source.left l.fn.papers.report.inner))
      (prepend_known (take (l.papers.report.end - l.papers.report.at) (drop l.papers.report.at l.papers.report.buffer.items)) (g.R.Source.left l.papers.report.inner));
  only : LeftFrom (g.D.Extension.texts l.desk) l.at
      (prepend_known (take (l.fn.papers.report.end - l.fn.papers.report.at) (drop l.fn.papers.report.at l.fn.papers.report.buffer.items)) (g.R.Source.left l.fn.papers.report.inner))
      (prepend_known (take (l.papers.report.end - l.papers.report.at) (drop l.papers.report.at l.papers.report.buffer.items)) (g.R.Source.left l.papers.report.inner));
  lines : AreLines (g.D.Extension.texts l.desk) l.at;
  cut : CutFrom (g.D.Extension.texts l.desk) l.at
      (prepend_known (take (l.fn.papers.report.end - l.fn.papers.report.at) (drop l.fn.papers.report.at l.fn.papers.report.buffer.items)) (g.R.Source.left l.fn.papers.report.inner))
      (prepend_known (take (l.papers.report.end - l.papers.report.at) (drop l.papers.report.at l.papers.report.buffer.items)) (g.R.Source.left l.papers.report.inner));
  reach : l.papers.reach ≡ l.fn.papers.reach;
  line : l.papers.line ≡ l.fn.papers.line;
}
