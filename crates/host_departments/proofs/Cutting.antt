-- What is kept agrees also with the commit that failed, so that a boot finds no damage in it.
use Rattle.std.proofs.Common.{ℕ, ◌+◌, List, [], ◌∷◌, Option, None, sym, subst}
use Rattle.node_acts.specs.RowList.{put}
use Rattle.node_turns.specs.declared.turn.Turn.{Turn}
use Rattle.line_extensions.specs.Trace.{StepRecord, Skipped, Did}
use Rattle.line_extensions.specs.SideTrace.{SideStep, Plain, Own, Broken}
use Rattle.line_extensions.specs.Stops.{with_commit}
use Rattle.line_extensions.proofs.Lines.{BrokenLast}
use Rattle.host_departments.specs.Answers.{Asked, CellCommit, IsCutShort, AreAnswered}
use Rattle.host_departments.specs.DepartmentLines.{IsLine}
use Rattle.host_departments.specs.Rows.{Rows, first_cell, Agree}
use Rattle.host_departments.specs.declared.{row.DepartmentLine.DepartmentLine, row.DepartmentLine.TheVariants.Quota, row.DepartmentLine.TheVariants.Assign, row.DepartmentLine.TheVariants.Spent, row.DepartmentLine.TheVariants.Print, row.DepartmentRow.DepartmentRow}
use Rattle.host_departments.proofs.Agreeing.{quota_agrees, job_agrees}

module _ (rows : Rows) (agree : Agree rows) where
  cut_agrees : (own : DepartmentLine) (asked : List Asked) (c : CellCommit) → IsLine own → IsCutShort own rows asked c → Agree (put rows c.cell c.kept)
  cut_agrees (Quota d q) asked c line cut = subst (λ (x : CellCommit). Agree (put rows x.cell x.kept)) (sym cut.2) (quota_agrees rows agree d q line.0 cut.0)
  cut_agrees (Assign d j) asked c line cut =
      subst (λ (k : ℕ). Agree (put rows k c.kept)) (sym cut.3.cell)
      (subst (λ (x : DepartmentRow). Agree (put rows (first_cell d + cut.3.place) x)) (sym cut.3.kept)
      (job_agrees rows agree d j cut.0 cut.3.postage cut.3.place line.0 cut.1 cut.2 cut.3.fits cut.3.jobs cut.3.room))
  cut_agrees (Spent d) asked c line cut = absurd cut
  cut_agrees (Print j) asked c line cut = absurd cut

-- the line where a commit failed is the last, so what was kept then is what is kept now
pub failed_agrees : {B : Type 0} (Steps : B → B → StepRecord → Turn → Type 0) (then : Rows) → Agree then → (s : B) (rows : Rows) (trace : List (SideStep DepartmentLine)) (t : B) (failed : Option CellCommit)
    → BrokenLast trace → AreAnswered Steps s rows trace t then failed → Agree (with_commit failed then)
failed_agrees Steps then agree s rows [] t failed last did = subst (λ (o : Option CellCommit). Agree (with_commit o then)) (sym did.2) agree
failed_agrees Steps then agree s rows (Plain (Skipped line) ∷ rest) t failed last did = failed_agrees Steps then agree s rows rest t failed last did
failed_agrees Steps then agree s rows (Plain (Did line d) ∷ rest) t failed last did = failed_agrees Steps then agree did.0 rows rest t failed last did.2
failed_agrees Steps then agree s rows (Own line own steps texts ∷ rest) t failed last did = failed_agrees Steps then agree did.0 did.1 rest t failed last did.3
failed_agrees Steps then agree s rows (Broken line own steps ∷ rest) t failed last did =
    let end = subst (λ (l : List (SideStep DepartmentLine)). AreAnswered Steps did.0 rows l t then None) last did.4 in
    let cut : IsCutShort own then did.2.asked did.1 = subst (λ (x : Rows). IsCutShort own x did.2.asked did.1) (sym end.1) did.2.cut in
    subst (λ (o : Option CellCommit). Agree (with_commit o then)) (sym did.3) (cut_agrees then agree own did.2.asked did.1 did.2.line cut)
