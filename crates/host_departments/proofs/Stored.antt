-- Departments that keep their rows in a storage, and steps of a bench.
use Rattle.std.proofs.Common.{◌≡◌, inl, inr, ℕ, Result, Ok, Err, Bool, true, false, refl, ap, subst}
use Rattle.std.proofs.lemmas.Bool.{false_from_ne_true}
use Rattle.bench_base.specs.declared.refusals.StoreFail.{StoreFail}
use Rattle.bench_base.specs.declared.refusals.StoreFail.TheVariants as fail
use Rattle.nv_model.specs.declared.nv.Nv as nv
use Rattle.nv_model.specs.Moments.{Nested}
use Rattle.nv_store.specs.Fails.{ends_failed}
use Rattle.nv_store.specs.declared.room.Room.{Room}
use Rattle.node_acts.specs.RowList.{is_worn}
use Rattle.node_turns.specs.declared.turn.Turn.{Turn}
use Rattle.ledger_moves.specs.Tariffs.{Tariff}
use Rattle.bench_abstraction.specs.Tariff.{IsOfTexts}
use Rattle.bench.specs.Benches.{Nodes}
use Rattle.line_extensions.specs.Stops.{IsUntouched}
use Rattle.line_extensions.specs.declared.extension.Next.{Next}
use Rattle.line_extensions.proofs.Stores.{Goes, Breaks, goes_rests, goes_same, goes_on, breaks_later, breaks_before, came_by}
use Rattle.row_store.specs.Commits.{CommitsRow}
use Rattle.script_replay.specs.Sides.{StepsBy}
use Rattle.script_replay.specs.Throughout.{StandsFor}
use Rattle.script_replay.proofs.Chains.{steps_on, stands_then}
use Rattle.host_departments.specs.Answers.{CellCommit}
use Rattle.host_departments.specs.Courses.{Follows, ByFailed, Tries, stored}
use Rattle.host_departments.specs.Kept.{rows_in}
use Rattle.host_departments.specs.Payload.{decoded, spelled}
use Rattle.host_departments.specs.View.{said_of, has_failed, rows_of, store_of, view_of, Rests}
use Rattle.host_departments.specs.declared.{desk.Departments.Departments, row.TheConstants.CELLS, row.DepartmentRow.DepartmentRow, answer.Answer.Answer}
use Rattle.host_departments.proofs.Tracking.{CameOut, Tracks, IsTurnAt, StepsLedger}

-- == a storage ==

module _ {N : Type 0} {g : nv.Ghosts N} where
  abbrev pub Went : Departments N g → Departments N g → Type 0
  Went old new = Goes g decoded 12 CELLS (view_of old) (view_of new)

  abbrev pub Failed : CellCommit → Departments N g → Departments N g → Type 0
  Failed c old new = Breaks g decoded 12 CELLS c (view_of old) (view_of new)

  abbrev Came : ℕ → DepartmentRow → Answer → Departments N g → Next → Departments N g → Type 0
  Came k x meant old next new = CameOut stored Went Failed k x meant old next new

  pub rests_rows : (old new : Departments N g) → Rests old new → rows_of new ≡ rows_of old
  rests_rows old new rests = ap (λ (room : Room 12). rows_in room) rests.room

  untouched : (old new : Departments N g) → Rests old new → IsUntouched g decoded (view_of old) (view_of new)
  untouched old new rests = record { storage = rests.storage; rows = rests_rows old new rests }

  pub rests_went : (old new : Departments N g) → Rests old new → Went old new
  rests_went old new rests = goes_rests g decoded 12 CELLS (view_of old) (view_of new) rests.failed (untouched old new rests)

  module _ (nested : (s : N) → g.tells → Nested (g.times s)) where
    came_out : (k : ℕ) (x : DepartmentRow) (meant : Answer) (old : Departments N g) (next : Next) (new : Departments N g) → has_failed old ≡ false → (result : Result (Unit {0}) StoreFail)
        → CommitsRow g.tells decoded spelled 12 k x (store_of old) (store_of new) result → has_failed new ≡ ends_failed result → Follows result meant (said_of new) next → Came k x meant old next new
    came_out k x meant old next new works (Ok u) did failed follows =
        let went = came_by g decoded 12 CELLS spelled nested (record { cell = k; kept = x }) (view_of old) (view_of new) old.cells works (Ok u) did failed in
        inl (follows.1, went, inl (false_from_ne_true (is_worn (rows_of old) k) (λ worn. let wrong : Ok u ≡ Err fail.Worn = did.worn.1 worn in cc), follows.0, did.done))
    came_out k x meant old next new works (Err fail.Worn) did failed follows =
        let went = came_by g decoded 12 CELLS spelled nested (record { cell = k; kept = x }) (view_of old) (view_of new) old.cells works (Err fail.Worn) did failed in
        inl (follows.1, went, inr (did.worn.0 refl, follows.0, did.stays))
    came_out k x meant old next new works (Err fail.Power) did failed follows =
        inr (follows, came_by g decoded 12 CELLS spelled nested (record { cell = k; kept = x }) (view_of old) (view_of new) old.cells works (Err fail.Power) did failed, did.stays)
    came_out k x meant old next new works (Err fail.Fault) did failed follows =
        inr (follows, came_by g decoded 12 CELLS spelled nested (record { cell = k; kept = x }) (view_of old) (view_of new) old.cells works (Err fail.Fault) did failed, did.stays)
    came_out k x meant old next new works (Err fail.Failed) did failed follows = absurd (did.not_failed refl)

    pub tried : (k : ℕ) (x : DepartmentRow) (meant : Answer) (old : Departments N g) (next : Next) (new : Departments N g) → Tries k x meant old next new → Came k x meant old next new
    tried k x meant old next new did = by_failed (has_failed old) refl did
      where
        by_failed : (b : Bool) → has_failed old ≡ b → ByFailed b k x meant old next new → Came k x meant old next new
        by_failed true is did =
            inr (did.0, breaks_before g decoded 12 CELLS (record { cell = k; kept = x }) (view_of old) (view_of new) is did.1.failed (untouched old new did.1), rests_rows old new did.1)
        by_failed false is did = came_out k x meant old next new is did.result did.commits did.failed did.follows

    -- what they go through is what their storage tells
    abbrev pub storage_tracks : Tracks (stored {N = N} {g = g})
    storage_tracks = record {
      Went = Went;
      Failed = Failed;
      went_to = λ old new same. goes_same g decoded 12 CELLS (view_of old) (view_of new) (ap (λ (desk : Departments N g). view_of desk) same);
      went_on = λ old mid new first second. goes_on g decoded 12 CELLS (view_of old) (view_of mid) (view_of new) first second;
      failed_later = λ c old mid new went failed. breaks_later g decoded 12 CELLS c (view_of old) (view_of mid) (view_of new) went failed;
      rests_rows = rests_rows;
      rests_went = rests_went;
      tried = tried;
    }

-- == a bench ==

-- it stands for the ledger
abbrev pub bench_ledger : (τ : Tariff) (n : Nodes) → IsOfTexts τ → n.storage.tells → StepsLedger τ (StepsBy n)
bench_ledger τ n texts tells = record {
  At = λ s H. StandsFor n τ s.bench H;
  history = λ s H stands. stands.history;
  goes = λ s t d turn H by stands u. stands_then n τ texts tells s t d H by.0 stands u;
  told = λ s t d turn H by stands u.
      let on = steps_on n τ texts tells s t d H by.0 stands u in
      subst (λ (x : Turn). IsTurnAt τ H d x) by.1 (record { moves = on.moves; entries = on.entries });
}
