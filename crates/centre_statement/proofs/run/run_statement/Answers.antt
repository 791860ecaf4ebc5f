use Rattle.line_extensions.specs.Desks.{side_lines}
use Rattle.centre_statement.specs.StatementsDesk.{statements_desk}
use Rattle.centre_statement.proofs.Running.{said_read, did_statements, never_stops}
use Rattle.centre_statement.proofs.Stating.{Laws}
use Rattle.centre_statement.proofs.run.run_statement.Goals as goal

pub returns-clause-ran : goal.returns-clause-ran
returns-clause-ran g c =
    let laws : Laws = record { today = c.histories.ensures.today; opens = c.orders.ensures.torn; follow = c.balances.ensures.follows; fit = c.balances.ensures.fits } in
    record {
      desk = c.new-desk.result;
      after = c.run_side.new.desk;
      starts = c.new-desk.ensures;
      ran = record {
        replays = λ is. said_read (side_lines statements_desk) _ _ c.run_side.result _ _ _ _ (λ trace reads did. did_statements _ laws _ _ _ _ c.new-desk.ensures c.run_side.result trace reads did) (c.run_side.ensures.ran.replays is);
        nothing = λ other. did_statements _ laws _ _ _ _ c.new-desk.ensures c.run_side.result _ tt (c.run_side.ensures.ran.nothing other);
      };
    }

pub returns-clause-never_stops : goal.returns-clause-never_stops
returns-clause-never_stops g c =
    let ran = returns-clause-ran g c in
    λ stopped. never_stops _ _ _ ran.desk ran.after c.run_side.result stopped _ _ _ _ ran.ran c.run_side.ensures.ends
