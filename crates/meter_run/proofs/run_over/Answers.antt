use Rattle.meter_run.proofs.run_over.Goals as goal
use Rattle.meter_run.proofs.run_over.Goals.{in-Claims, in-Departments, in-Statement, in-Manifest, in-Alone}

pub remember_end-requires : goal.remember_end-requires
remember_end-requires c = record {
  ready = elim c.match-side-3.branch [
    | in-Claims w ↦ rw w.bench-is w.run_claims-ended.ensures.ready
    | in-Departments w ↦ rw w.bench-is w.run_departments-ended.ensures.ready
    | in-Statement w ↦ rw w.bench-is w.run_statement-ended.ensures.ready
    | in-Manifest w ↦ rw w.bench-is w.run_manifest-ended.ensures.ready
    | in-Alone w ↦ rw w.bench-is w.run.ensures.ready
  ];
}
