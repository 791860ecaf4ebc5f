-- What a commit of a change leaves of a node of rows.
use Rattle.std.proofs.Common.{◌≡◌, ◌⊎◌, inl, inr, ℕ, List, Option, Bool, Result, Ok, Err, IsErrOf, false, is_ok, sym, ◌∙◌, ap, subst}
use Rattle.std.proofs.Math.Path.{fun_ext}
use Rattle.std.proofs.lemmas.Bool.{cases_eq}
use Rattle.bench_base.specs.declared.{refusals.StoreFail.StoreFail, refusals.StoreFail.TheVariants.Worn}
use Rattle.nv_model.specs.declared.nv.Nv.{Ghosts}
use Rattle.nv_store.specs.Slot.{Held}
use Rattle.nv_store.specs.Store.{Between}
use Rattle.nv_store.specs.RoomView.{cells_of, kept_in}
use Rattle.nv_store.specs.Rooms.{RoomCommits}
use Rattle.nv_store.specs.declared.room.Room.{Room}
use Rattle.node_acts.specs.RowList.{RowList, is_worn}
use Rattle.node_storage.specs.Does.{Commits, Stores, Spends, Writes}
use Rattle.node_storage.specs.Ends.{begins, end_of_commit, leaves_running}
use Rattle.node_storage.proofs.Fails.{ends_running, spent_failed, writes_as}
use Rattle.row_node.specs.Kept.{seen_fills, still_filled, seen_put, between_seen}
use Rattle.row_node.specs.Tables.{Table, Filled, Keeps, IsShown, counting, fill_of, seen_of}
use Rattle.row_node.specs.Laws.{Laws, IsBlank, IsNext, IsCommitted, Takes}
use Rattle.row_node.proofs.Worn.{full}

-- the next change, where its cell was looked up
pub next_at : {S X : Type 0} (t : Table S X) (m : S) (held : ℕ → Option Held) (x : X) (payload : List ℕ) (blank : Bool) (cell : ℕ) → cell ≡ t.cell x → Keeps t m held
    → t.IsFit (seen_of t m held) x → t.HasCell x → IsBlank t blank (held cell) → t.reads (t.cell x) (t.row (seen_of t m held) x) payload → IsNext t m held x payload blank
next_at t m held x payload blank cell is keeps fits has blank_is reads = record {
  keeps = keeps;
  fits = fits;
  has = has;
  is_blank = subst (λ (j : ℕ). IsBlank t blank (held j)) is blank_is;
  reads = reads;
}

module _ {S X N : Type 0} {L : ℕ} {t : Table S X} (laws : Laws L t) (g : Ghosts N) (m : S) (old : Room L) (x : X) {payload : List ℕ} {blank : Bool}
    (many : cells_of old ≡ t.cells) (next : IsNext t m (kept_in old) x payload blank) where
  abbrev seen : RowList t.Row
  seen = seen_of t m (kept_in old)

  abbrev after : RowList t.Row
  after = (counting t).after seen x

  -- each image meanwhile
  meanwhile : (image : List ℕ) → Between L 2 (cells_of old) (t.cell x) (kept_in old) payload image → IsShown t L seen image ⊎ IsShown t L after image
  meanwhile image moment =
      between_seen t.cells t.reads (t.kept m (kept_in old)) (kept_in old) next.keeps.filled (t.cell x) (laws.inside x next.has) (t.row seen x) payload next.reads L image
      (subst (λ (n : ℕ). Between L 2 n (t.cell x) (kept_in old) payload image) many moment)

  module _ {new : Room L} {before now : N} {result : Result (Unit {0}) StoreFail} (did : RoomCommits g (t.cell x) payload old new before now result) where
    pub writes : payload ≡ t.spelled (t.row seen x) → Writes g (fill_of t L seen x) before now (begins result) (is_ok result)
    writes value = writes_as g _ before now result (λ tells fresh.
        seen_fills t.cells t.reads (t.kept m (kept_in old)) (kept_in old) next.keeps.filled L (t.cell x) payload (t.spelled (t.row seen x)) (laws.inside x next.has) value _ _ _ (did.fills tells fresh))
        did.calls

    pub stores : (IsErrOf result Worn → ⊥) → Spends g 6 before now (end_of_commit result) → Stores g (IsShown t L seen) (IsShown t L after) before now (end_of_commit result)
    stores not_worn spent = record {
      any_moment = λ tells c since. meanwhile c (did.any_moment tells not_worn c since);
      time = did.time;
      spent = spent;
      size = did.size;
    }

  -- once it is committed
  module _ (new : Room L) {before now : N} (did : RoomCommits g (t.cell x) payload old new before now (Ok tt)) where
    pub committed : IsCommitted t m (kept_in old) (kept_in new) x payload blank
    committed = record { next = next; here = did.puts.here; others = did.puts.others }

    module _ {m' : S} (takes : Takes t m m' (kept_in old) (kept_in new) x) where
      pub seen_after : seen_of t m' (kept_in new) ≡ after
      seen_after =
          seen_put t.cells t.reads (t.kept m (kept_in old)) (kept_in old) next.keeps.filled (t.cell x) (laws.inside x next.has) (t.row seen x) payload next.reads
          (t.kept m' (kept_in new)) (kept_in new) takes.here takes.others did.puts.here did.puts.others

      pub filled_after : Filled t m' (kept_in new)
      filled_after =
          still_filled t.cells t.reads (t.kept m (kept_in old)) (kept_in old) next.keeps.filled (t.cell x) (laws.inside x next.has) (t.row seen x) payload next.reads
          (t.kept m' (kept_in new)) (kept_in new) takes.here takes.others did.puts.here did.puts.others

  -- where it failed, though its cell was not worn
  module _ {new : Room L} {before now : N} {fail : StoreFail} (did : RoomCommits g (t.cell x) payload old new before now (Err fail)) (fresh : is_worn seen (t.cell x) ≡ false) where
    pub not_found_worn : IsErrOf {T = Unit {0}} (Err fail) Worn → ⊥
    not_found_worn is = let worn = full next.keeps (t.cell x) (laws.inside x next.has) (did.causes.worn.0 is).1 in cc

    pub fails_off : false ≡ leaves_running (Err fail)
    fails_off = ends_running fail not_found_worn (λ is. let was = did.causes.failed.0 is in cc)

    pub fails_fresh : (s : RowList t.Row) → Commits (counting t) seen s x (Err fail)
    fails_fresh s = record {
      worn = (λ is. absurd (not_found_worn is), λ worn. cc);
      not_failed = λ is. let was = did.causes.failed.0 is in cc;
      done = tt;
    }

    pub fails_spent : Spends g 6 before now (end_of_commit (Err fail))
    fails_spent = spent_failed _ _ _ fail did.causes

    same : (k : ℕ) → kept_in new k ≡ kept_in old k
    same k = elim (cases_eq k (t.cell x)) [
      | inl is ↦ ap (kept_in new) is ∙ did.puts.unchanged ∙ ap (kept_in old) (sym is)
      | inr differs ↦ did.puts.others k differs
    ]

    same_held : kept_in new ≡ kept_in old
    same_held = fun_ext same

    pub keeps_still : Keeps t m (kept_in new)
    keeps_still = subst (λ (held : ℕ → Option Held). Keeps t m held) (sym same_held) next.keeps

    pub seen_still : seen_of t m (kept_in new) ≡ seen
    seen_still = ap (seen_of t m) same_held
