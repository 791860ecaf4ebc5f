use Rattle.line_extensions.proofs.Lines.{said_of_lines, nothing_done}
use Rattle.spoil_claims.specs.ClaimsDesk.{claims_desk}
use Rattle.spoil_claims.proofs.Running.{did_claims}
use Rattle.spoil_claims.proofs.run.run_claims.Goals as goal

pub returns-clause-ran : goal.returns-clause-ran
returns-clause-ran g c = record {
  replays = λ is. said_of_lines (claims_desk g.N.Nv) _ _ c.run_side.result _ _ _ _
      (λ trace reads at did. did_claims _ g.N.Nv g.met.N.Nv.nested c.histories.ensures.today _ _ c.run_side.result trace reads at did) (c.run_side.ensures.ran.replays is);
  nothing = λ other. did_claims _ g.N.Nv g.met.N.Nv.nested c.histories.ensures.today _ _ c.run_side.result _ tt
      (nothing_done (claims_desk g.N.Nv) c.run_side.result (c.run_side.ensures.ends.words.1 other)) (c.run_side.ensures.ran.nothing other);
}
