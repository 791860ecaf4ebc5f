use Rattle.std.proofs.Common.{◌≤◌}
use Rattle.script_check.specs.Turns.{Progress}
use Rattle.script_check.proofs.script.check_script.Given as goal

abbrev pub invariant-loop-count : goal.invariant-loop-count
invariant-loop-count g l = record {
  progress : Progress l.count l.is_well_formed (g.S.Source.left l.fn.script) (g.S.Source.left l.script) (g.K.Sink.taken l.fn.faults) (g.K.Sink.taken l.faults);
  script_later : g.S.Source.faults l.fn.script ≤ g.S.Source.faults l.script;
  sink_later : g.K.Sink.faults l.fn.faults ≤ g.K.Sink.faults l.faults;
}
