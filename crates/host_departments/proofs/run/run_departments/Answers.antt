use Rattle.host_departments.specs.DepartmentsExtension.{departments_desk}
use Rattle.line_extensions.proofs.Lines.{said_of_lines, nothing_done}
use Rattle.host_departments.proofs.Running.{did_departments}
use Rattle.host_departments.proofs.run.run_departments.Goals as goal

pub returns-clause-ran : goal.returns-clause-ran
returns-clause-ran g c = record {
  replays = λ is. said_of_lines (departments_desk g.N.Nv) _ _ c.run_side.result _ _ _ _
      (λ trace reads at did. did_departments _ g.N.Nv g.met.N.Nv.nested c.histories.ensures.today _ _ c.run_side.result trace reads at did) (c.run_side.ensures.ran.replays is);
  nothing = λ other. did_departments _ g.N.Nv g.met.N.Nv.nested c.histories.ensures.today _ _ c.run_side.result _ tt
      (nothing_done (departments_desk g.N.Nv) c.run_side.result (c.run_side.ensures.ends.words.1 other)) (c.run_side.ensures.ran.nothing other);
}
