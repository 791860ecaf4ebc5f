use Rattle.std.proofs.Common.{◌≤◌}
use Rattle.statement_check.specs.Turns.{Progress}
use Rattle.statement_check.proofs.judge.judge.Given as goal

abbrev pub invariant-loop-count : goal.invariant-loop-count
invariant-loop-count g l = record {
  progress : Progress l.count l.place (g.S.Source.left l.fn.script) (g.S.Source.left l.script);
  later : g.S.Source.faults l.fn.script ≤ g.S.Source.faults l.script;
}
