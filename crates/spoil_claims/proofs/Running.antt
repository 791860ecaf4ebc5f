-- What a run with claims did, by what desk and bench did of its lines.
use Rattle.std.proofs.Common.{◌≡◌, inl, inr, List, ◌∷◌, refl, sym, ap, ◌∙◌, subst, Option, Some, None, Bool, true, false, true≢false, []}
use Rattle.std.specs.Prelude.{IfSome}
use Rattle.bench_base.specs.declared.ledger.Entry.TheVariants.{Begin}
use Rattle.bench_base.specs.Ledger.{Ledger}
use Rattle.nv_model.specs.Moments.{Nested}
use Rattle.line_extensions.specs.Trace.{StepRecord}
use Rattle.ledger_moves.specs.Tariffs.{Tariff}
use Rattle.script_replay.specs.Trace.{ledger_after, RunWhile, AreUnforged}
use Rattle.std.specs.List.{AllByRecursion}
use Rattle.bench_base.specs.Rules.{editions}
use Rattle.nv_model.specs.declared.nv.Nv as nv
use Rattle.ledger_terms.specs.Editions.{Editions}
use Rattle.bench.specs.Benches.{Nodes, Stands}
use Rattle.line_runs.specs.Trace.{Lines, Reads}
use Rattle.line_runs.specs.declared.status.Status.TheVariants as status
use Rattle.line_runs.specs.declared.{status.SideStatus.SideStatus, status.SideStatus.TheVariants.Run}
use Rattle.line_extensions.specs.Desks.{World, world, side_lines}
use Rattle.line_extensions.specs.SideTrace.{SideStep, steps_of}
use Rattle.script_replay.specs.Chains.{SceneOf, scene}
use Rattle.script_replay.specs.Run.{Unforged, Moves, Leaves}
use Rattle.script_replay.specs.SideLaws.{told}
use Rattle.script_replay.specs.Sides.{StepsBy, DidSide}
use Rattle.script_replay.proofs.Whiles.{all_histories}
use Rattle.spoil_claims.specs.Answers.{AreAnswered}
use Rattle.spoil_claims.specs.Claims.{Claims}
use Rattle.spoil_claims.specs.ClaimsDesk.{claims_desk}
use Rattle.spoil_claims.specs.Courses.{stored}
use Rattle.spoil_claims.specs.Ran.{DidClaims}
use Rattle.spoil_claims.specs.Holds.{AreBacked}
use Rattle.line_extensions.specs.Stops.{HasBroken}
use Rattle.line_extensions.proofs.Lines.{AtLast}
use Rattle.spoil_claims.specs.Storage.{with_torn, LeavesStorage}
use Rattle.spoil_claims.specs.View.{has_failed, rows_of}
use Rattle.spoil_claims.specs.declared.{claim.ClaimLine.ClaimLine, claim.ClaimRow.ClaimRow, desk.Desk.Desk}
use Rattle.spoil_claims.proofs.Answering.{all_answered, stored_keeps}
use Rattle.spoil_claims.proofs.Backing.{backed_after, torn_backed}
use Rattle.spoil_claims.proofs.Following.{follow_all}
use Rattle.spoil_claims.proofs.Holding.{claims_hold}
use Rattle.spoil_claims.proofs.Meanwhile.{all_shown}
use Rattle.spoil_claims.proofs.Numbers.{desk_numbers}
use Rattle.spoil_claims.proofs.Stopping.{shows_now, Goes, BreaksBy, IsCutAfter, Ends, all_end}
use Rattle.line_extensions.proofs.Wanting.{desk_left}
use Rattle.script_replay.proofs.Nothing.{stands_for_none, bench_fresh}
use Rattle.spoil_claims.specs.Fresh.{DidFreshClaims, KeepsNone}
use Rattle.spoil_claims.proofs.Blank.{none_backed, nothing_accepted}

abbrev Read : {N : Type 0} → nv.Ghosts N → Lines (SideStep ClaimLine)
Read own = side_lines (claims_desk own)

-- == what is left ==

module _ {N : Type 0} {own : nv.Ghosts N} (old new : Desk N own) (outcome : SideStatus) (trace : List (SideStep ClaimLine)) (at : AtLast (claims_desk own) outcome trace) where
  -- the commit that was torn
  pub record Left : Type 0 where
    pub torn : Option ClaimRow
    pub storage : LeavesStorage old new outcome trace torn
    pub cut : IfSome torn (λ x. IsCutAfter x (rows_of new) (steps_of trace))

  went_well : Goes old new → (HasBroken trace → ⊥) → Left
  went_well goes none = record {
    torn = None;
    storage = record {
      stops = at.stops;
      failed = (
        λ is. inl (sym goes.failed ∙ is),
        λ either. elim either [
          | inl was ↦ goes.failed ∙ was
          | inr stopped ↦ absurd (none (at.stops.0 stopped))
        ],
      );
      before = λ is. (refl, goes.before is);
      why = λ works stopped. absurd (none (at.stops.0 stopped));
      whole = λ other. refl;
      shows = λ tells works c image. inl (shows_now new (goes.failed ∙ works) tells c image);
    };
    cut = tt;
  }

  broke_by : (b : Bool) (x : ClaimRow) → has_failed old ≡ b → BreaksBy b x old new → has_failed new ≡ true → HasBroken trace → IsCutAfter x (rows_of new) (steps_of trace) → Left
  broke_by true x was by failed broke cut = record {
    torn = None;
    storage = record {
      stops = at.stops;
      failed = (λ is. inl was, λ either. failed);
      before = λ is. (refl, by);
      why = λ works stopped. absurd (true≢false (sym was ∙ works));
      whole = λ other. refl;
      shows = λ tells works c image. absurd (true≢false (sym was ∙ works));
    };
    cut = tt;
  }
  broke_by false x was by failed broke cut = record {
    torn = Some x;
    storage = record {
      stops = at.stops;
      failed = (λ is. inr (at.stops.1 broke), λ either. failed);
      before = λ is. absurd (true≢false (sym is ∙ was));
      why = λ works stopped. (refl, by.cause);
      whole = λ other. absurd (other (at.stops.1 broke));
      shows = λ tells works c image. by.shows tells c image;
    };
    cut = cut;
  }

  pub left : Ends old new trace → Left
  left (inl goes) = went_well goes.0 goes.1
  left (inr broke) = broke_by (has_failed old) broke.1 refl broke.2.by broke.2.failed broke.0 broke.3

with_torn_backed : (τ : Tariff) (torn : Option ClaimRow) (rows : Claims) (H : Ledger) (all : List StepRecord) → AreUnforged τ Unforged H all → RunWhile τ Unforged (Moves τ) H all → IfSome torn (λ x. IsCutAfter x rows all)
    → AreBacked rows (ledger_after τ H all) → AreBacked (with_torn torn rows) (ledger_after τ H all)
with_torn_backed τ None rows H all unforged run cut b = b
with_torn_backed τ (Some x) rows H all unforged run cut b = torn_backed τ rows x H all unforged run cut b

module _ {N : Type 0} (n : Nodes) (own : nv.Ghosts N) (nested : (s : N) → own.tells → Nested (own.times s)) (today : Editions editions) (old new : World (SceneOf n) (Desk N own)) (outcome : SideStatus) where
  pub did_claims : (trace : List (SideStep ClaimLine)) → AllByRecursion (Reads (Read own)) trace → AtLast (claims_desk own) outcome trace → DidSide n (claims_desk own) old new outcome trace → DidClaims n own old new outcome trace
  did_claims trace reads at did =
      let from = world (scene did.begun old.scene.outside) old.desk in
      let same : new.desk ≡ did.behind.desk = desk_left (λ s t. Leaves (Run status.Memory) s t) outcome did.behind new did.leaves in
      let answers : AreAnswered (rows_of old.desk) trace (rows_of new.desk) = subst (λ (r : Claims). AreAnswered (rows_of old.desk) trace r)
      (sym (ap (λ (d : Desk N own). rows_of d) same)) (all_answered (stored own) (stored_keeps own) (StepsBy n) (told n) from did.behind trace (desk_numbers own old.desk) reads did.did) in
      let is_left : Left old.desk new.desk outcome trace at = left old.desk new.desk outcome trace at
      (subst (λ (d : Desk N own). Ends old.desk d trace) (sym same) (all_end nested (StepsBy n) (told n) from did.behind trace at.last did.did)) in
      record {
        side = did;
        answers = answers;
        follows = λ τ L texts stands tells backed.
            let through = did.bench.throughout τ L texts stands tells in
            follow_all τ today (stored own) L (rows_of old.desk) (rows_of new.desk) trace backed reads answers (did.bench.over τ L texts stands tells).run
            (all_histories τ n (Begin ∷ L) _ _ (steps_of trace) did.bench.steps through);
        torn = is_left.torn;
        storage = is_left.storage;
        throughout = all_shown (StepsBy n) from did.behind trace did.did;
        holds = λ τ L texts stands tells backed unforged.
            let over = did.bench.over τ L texts stands tells in
            let history = (over.stands unforged).history in
            let b = backed_after τ (stored own) L (rows_of old.desk) (rows_of new.desk) trace backed reads answers unforged over.run in (
              claims_hold today τ _ history (rows_of new.desk) b,
              claims_hold today τ _ history (with_torn is_left.torn (rows_of new.desk))
                  (with_torn_backed τ is_left.torn (rows_of new.desk) (Begin ∷ L) (steps_of trace) unforged over.run is_left.cut b),
            );
      }

-- == from nothing ==

module _ (n : Nodes) {N : Type 0} (own : nv.Ghosts N) (old new : SceneOf n) (before after : Desk N own) (stands : Stands n old.bench []) (tells : n.storage.tells) (none : KeepsNone before)
    (works : has_failed before ≡ false) (outcome : SideStatus) where
  pub claims_fresh : (trace : List (SideStep ClaimLine)) → DidClaims n own (world old before) (world new after) outcome trace → DidFreshClaims n own old new outcome trace
  claims_fresh trace did =
      let backed : AreBacked (rows_of before) [] = none_backed (rows_of before) [] none nothing_accepted in
      record {
        before = before;
        after = after;
        none = none;
        works = works;
        did = did;
        bench = bench_fresh n old new stands did.side.ended (steps_of trace) did.side.bench tells;
        follows = λ τ texts. did.follows τ [] texts (stands_for_none n old new stands τ) tells backed;
        holds = λ τ texts unforged. did.holds τ [] texts (stands_for_none n old new stands τ) tells backed unforged;
      }
