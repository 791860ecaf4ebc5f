-- What a run with departments did, by what departments and bench did of its lines.
use Rattle.std.proofs.Common.{◌≡◌, List, [], ◌∷◌, sym, ap, subst, false}
use Rattle.std.specs.List.{AllByRecursion}
use Rattle.bench_base.specs.declared.ledger.Entry.TheVariants.{Begin}
use Rattle.bench_base.specs.Ledger.{Ledger}
use Rattle.bench_base.specs.Rules.{editions}
use Rattle.nv_model.specs.declared.nv.Nv as nv
use Rattle.nv_model.specs.Moments.{Nested}
use Rattle.ledger_terms.specs.Editions.{Editions}
use Rattle.ledger_moves.specs.Tariffs.{Tariff}
use Rattle.bench.specs.Benches.{Nodes, BenchOf, Stands}
use Rattle.line_runs.specs.Trace.{Reads}
use Rattle.line_runs.specs.declared.status.Status.TheVariants as status
use Rattle.line_runs.specs.declared.{status.SideStatus.SideStatus, status.SideStatus.TheVariants.Run}
use Rattle.line_extensions.specs.Trace.{StepRecord}
use Rattle.line_extensions.specs.Desks.{World, world, side_lines}
use Rattle.line_extensions.specs.SideTrace.{SideStep, steps_of}
use Rattle.line_extensions.proofs.Lines.{AtLast}
use Rattle.line_extensions.proofs.Stores.{Ends, leaves}
use Rattle.script_replay.specs.Chains.{SceneOf, scene, DidEvents}
use Rattle.script_replay.specs.Run.{Leaves}
use Rattle.script_replay.specs.Sides.{StepsBy, DidSide}
use Rattle.script_replay.specs.Throughout.{IsBetween, StandsFor, Throughout}
use Rattle.host_departments.specs.Answers.{AreAnswered}
use Rattle.host_departments.specs.Courses.{stored}
use Rattle.host_departments.specs.DepartmentsExtension.{departments_desk}
use Rattle.host_departments.specs.Payload.{decoded}
use Rattle.host_departments.specs.Ran.{DidDepartments}
use Rattle.host_departments.specs.Rows.{Rows}
use Rattle.host_departments.specs.View.{rows_of, view_of, has_failed}
use Rattle.host_departments.specs.declared.{desk.Departments.Departments, row.DepartmentLine.DepartmentLine, row.TheConstants.CELLS}
use Rattle.host_departments.proofs.Answering.{all_answered}
use Rattle.host_departments.proofs.Backing.{backed_after}
use Rattle.host_departments.proofs.Agreeing.{desk_agrees}
use Rattle.host_departments.proofs.Cutting.{failed_agrees}
use Rattle.host_departments.proofs.Following.{follow_all}
use Rattle.host_departments.proofs.Holding.{departments_hold}
use Rattle.host_departments.proofs.Meanwhile.{all_shown}
use Rattle.host_departments.proofs.Places.{one_department}
use Rattle.host_departments.proofs.Printing.{prints_by, all_printed}
use Rattle.host_departments.proofs.Showing.{shows_now}
use Rattle.host_departments.proofs.Stored.{storage_tracks, bench_ledger}
use Rattle.line_extensions.proofs.Wanting.{desk_left}
use Rattle.script_replay.proofs.Nothing.{stands_for_none, bench_fresh}
use Rattle.host_departments.specs.Fresh.{DidFreshDepartments, KeepsNone}
use Rattle.host_departments.specs.Holds.{AreBacked}
use Rattle.host_departments.proofs.Blank.{none_backed}

-- the first moment of a run
first_between : (n : Nodes) (τ : Tariff) (L : Ledger) (old new : SceneOf n) (trace : List StepRecord) (did : DidEvents n old new trace) → Throughout n τ L old new trace did → IsBetween n τ old.bench L
first_between n τ L old new [] did all = all
first_between n τ L old new (d ∷ rest) did all = all.0

module _ {N : Type 0} (n : Nodes) (own : nv.Ghosts N) (nested : (s : N) → own.tells → Nested (own.times s)) (today : Editions editions) (old new : World (SceneOf n) (Departments N own)) (outcome : SideStatus) where
  pub did_departments : (trace : List (SideStep DepartmentLine)) → AllByRecursion (Reads (side_lines (departments_desk own))) trace → AtLast (departments_desk own) outcome trace
      → DidSide n (departments_desk own) old new outcome trace → DidDepartments n own old new outcome trace
  did_departments trace reads at did =
      let from = world (scene did.begun old.scene.outside) old.desk in
      let same : new.desk ≡ did.behind.desk = desk_left (λ s t. Leaves (Run status.Memory) s t) outcome did.behind new did.leaves in
      let all = all_answered (stored {g = own}) (storage_tracks nested) (StepsBy n) from did.behind trace at.last did.did in
      let answers : AreAnswered (StepsBy n) from.scene (rows_of old.desk) trace did.behind.scene (rows_of new.desk) all.0 =
      subst (λ (r : Rows). AreAnswered (StepsBy n) from.scene (rows_of old.desk) trace did.behind.scene r all.0) (sym (ap (λ (d : Departments N own). rows_of d) same)) all.2 in
      let ends : Ends own decoded 12 CELLS (view_of old.desk) (view_of new.desk) trace all.0 =
      subst (λ (d : Departments N own). Ends own decoded 12 CELLS (view_of old.desk) (view_of d) trace all.0) (sym same) all.1 in
      record {
        side = did;
        failed = all.0;
        answers = answers;
        follows = λ τ L texts stands tells backed.
            let between = first_between n τ (Begin ∷ L) _ _ (steps_of trace) did.bench.steps (did.bench.throughout τ L texts stands tells) in
            let begins : StandsFor n τ did.begun (Begin ∷ L) = subst (λ (b : BenchOf n). StandsFor n τ b (Begin ∷ L)) did.same between.stands in
            follow_all τ (StepsBy n) (bench_ledger τ n texts tells) today L from.scene (rows_of old.desk) trace did.behind.scene (rows_of new.desk) all.0 begins backed answers;
        storage = leaves own decoded 12 CELLS (view_of old.desk) (view_of new.desk) outcome trace at.stops (λ works tells c image. shows_now new.desk works tells c image) all.0 ends;
        throughout = all_shown (StepsBy n) from did.behind trace did.did;
        within = λ d is. (new.desk.sound.each d is).1;
        one = λ d e j is_d is_e has has'. one_department (rows_of new.desk) new.desk.sound d e j is_d is_e has has';
        agrees = (failed_agrees (StepsBy n) (rows_of new.desk) (desk_agrees new.desk) from.scene (rows_of old.desk) trace did.behind.scene all.0 at.last answers).sound;
        printed = all_printed (stored {g = own}) (StepsBy n) (prints_by n) from.scene (rows_of old.desk) trace did.behind.scene (rows_of new.desk) all.0 reads answers;
        holds = λ τ L texts stands tells backed unforged.
            let over = did.bench.over τ L texts stands tells in
            let history = (over.stands unforged).history in
            let between = first_between n τ (Begin ∷ L) _ _ (steps_of trace) did.bench.steps (did.bench.throughout τ L texts stands tells) in
            let begins : StandsFor n τ did.begun (Begin ∷ L) = subst (λ (b : BenchOf n). StandsFor n τ b (Begin ∷ L)) did.same between.stands in
            let b = backed_after τ (StepsBy n) (bench_ledger τ n texts tells) today L from.scene (rows_of old.desk) trace did.behind.scene (rows_of new.desk) all.0 begins backed unforged answers in
            (departments_hold today τ _ history _ b.0, departments_hold today τ _ history _ b.1);
      }

-- == from nothing ==

module _ (n : Nodes) {N : Type 0} (own : nv.Ghosts N) (old new : SceneOf n) (before after : Departments N own) (stands : Stands n old.bench []) (tells : n.storage.tells)
    (none : KeepsNone before) (works : has_failed before ≡ false) (outcome : SideStatus) where
  pub departments_fresh : (trace : List (SideStep DepartmentLine)) → DidDepartments n own (world old before) (world new after) outcome trace → DidFreshDepartments n own old new outcome trace
  departments_fresh trace did =
      let backed : AreBacked (rows_of before) [] = none_backed (rows_of before) [] none in
      record {
        before = before;
        after = after;
        none = none;
        works = works;
        did = did;
        bench = bench_fresh n old new stands did.side.ended (steps_of trace) did.side.bench tells;
        follows = λ τ texts. did.follows τ [] texts (stands_for_none n old new stands τ) tells backed;
        holds = λ τ texts unforged. did.holds τ [] texts (stands_for_none n old new stands τ) tells backed unforged;
      }
