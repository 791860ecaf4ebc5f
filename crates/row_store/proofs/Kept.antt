-- Rows that are read out of the payloads of a table.
use Rattle.std.proofs.Common.{subst, true≢false, ◌≡◌, ◌≢◌, ◌⊎◌, ◌↔◌, inl, inr, ℕ, ◌<◌, List, Option, Some, None, Result, Ok, Err, true, false, refl, sym, ◌∙◌, ap, arith, true≢false}
use Rattle.std.specs.Prelude.{is_some, IsSome, IsErrOf, OnOk, OnErr}
use Rattle.std.proofs.lemmas.Bool.{cases_eq}
use Rattle.bench_base.specs.declared.{refusals.StoreFail.StoreFail, refusals.StoreFail.TheVariants.Worn, sizes.TheConstants.MOST_COMMITS}
use Rattle.nv_store.specs.Slot.{Held}
use Rattle.nv_model.specs.Moments.{Stays}
use Rattle.nv_model.specs.declared.nv.Nv.{Ghosts}
use Rattle.nv_store.specs.RoomView.{cells_of, kept_in}
use Rattle.nv_store.specs.Rooms.{RoomCommits}
use Rattle.nv_store.specs.Store.{Between, after_commit, count_of, payload_of}
use Rattle.nv_store.specs.declared.room.Room.{Room}
use Rattle.node_acts.specs.RowList.{row_at, row_of, commits_at, is_worn, put}
use Rattle.node_acts.specs.RowLaws.{listed_same, worn_is}
use Rattle.row_node.specs.Kept.{IsFilled, AreFilled, with_count, seen_row, seen_count, seen_fills, seen_put, between_seen}
use Rattle.row_node.specs.Shows.{ShowsRows}
use Rattle.row_store.specs.Seen.{ReadsAs, row_held, IsRead, AllRead, seen_in}
use Rattle.row_store.specs.Commits.{RowView, CommitsRow}

module _ {R : Type 0} (decoded : ℕ → List ℕ → Option R) where
  filled_at : (k : ℕ) (h : Held) (o : Option R) → decoded k h.1 ≡ o → IsSome o → IsFilled (ReadsAs decoded k) o (Some h)
  filled_at k h None is some = absurd (true≢false (sym some))
  filled_at k h (Some x) is some = is

  filled_by : (k : ℕ) (o : Option Held) → IsRead decoded k o → IsFilled (ReadsAs decoded k) (row_held decoded k o) o
  filled_by k None read = tt
  filled_by k (Some h) read = filled_at k h (decoded k h.1) refl read

  -- cells with payloads that read as rows hold these rows
  pub filled_of : (cells : ℕ) (held : ℕ → Option Held) → AllRead decoded cells held → AreFilled cells (ReadsAs decoded) (λ k. row_held decoded k (held k)) held
  filled_of cells held read k lt = filled_by k (held k) (read k lt)

  row_none : (k : ℕ) (o : Option Held) → None ≡ payload_of o → row_held decoded k o ≡ None
  row_none k None is = refl
  row_none k (Some h) is = cc

  row_some : (k : ℕ) (o : Option Held) (payload : List ℕ) → Some payload ≡ payload_of o → row_held decoded k o ≡ decoded k payload
  row_some k None payload is = cc
  row_some k (Some h) payload is = let same : h.1 ≡ payload = cc in ap (decoded k) same

  held_some : (k : ℕ) (o : Option Held) → IsRead decoded k o → is_some (row_held decoded k o) ≡ is_some (payload_of o)
  held_some k None read = refl
  held_some k (Some h) read = read

  held_row : (k : ℕ) (o : Option Held) (x : R) → row_held decoded k o ≡ Some x → (payload : List ℕ) × (decoded k payload ≡ Some x)
  held_row k None x is = cc
  held_row k (Some h) x is = (h.1, is)

  module _ (cells : ℕ) (held : ℕ → Option Held) (read : AllRead decoded cells held) (k : ℕ) (lt : k < cells) where
    at : row_of (row_at (seen_in decoded cells held) k) ≡ row_held decoded k (held k)
    at = seen_row cells (ReadsAs decoded) (λ j. row_held decoded j (held j)) held (filled_of cells held read) k lt

    -- a cell has a row if and only if it has a payload
    pub some_held : is_some (row_of (row_at (seen_in decoded cells held) k)) ≡ is_some (payload_of (held k))
    some_held = ap (λ (o : Option R). is_some o) at ∙ held_some k (held k) (read k lt)

    -- which reads as the row
    pub row_read : (x : R) → row_of (row_at (seen_in decoded cells held) k) ≡ Some x → (payload : List ℕ) × (decoded k payload ≡ Some x)
    row_read x is = held_row k (held k) x (sym at ∙ is)

    -- a cell without a payload has no row
    pub none_at : None ≡ payload_of (held k) → None ≡ row_of (row_at (seen_in decoded cells held) k)
    none_at is = sym (at ∙ row_none k (held k) is)

    -- and one with a payload has the row that this reads as
    pub some_at : (payload : List ℕ) (r : Option R) → r ≡ decoded k payload → Some payload ≡ payload_of (held k) → r ≡ row_of (row_at (seen_in decoded cells held) k)
    some_at payload r is here = is ∙ sym (at ∙ row_some k (held k) payload here)

  -- == a commit ==

  module _ (cells : ℕ) (held held' : ℕ → Option Held) (read : AllRead decoded cells held) (cell : ℕ) (inside : cell < cells) (others : (k : ℕ) → k ≢ cell → held' k ≡ held k) where
    rows_others : (k : ℕ) → k ≢ cell → row_held decoded k (held' k) ≡ row_held decoded k (held k)
    rows_others k differs = ap (row_held decoded k) (others k differs)

    count_here : commits_at (row_at (seen_in decoded cells held) cell) ≡ count_of (held cell)
    count_here = seen_count cells (ReadsAs decoded) (λ j. row_held decoded j (held j)) held (filled_of cells held read) cell inside

    pub worn_here : (is_worn (seen_in decoded cells held) cell ≡ true) ↔ (count_of (held cell) ≡ MOST_COMMITS)
    worn_here = (λ worn. sym count_here ∙ (worn_is (seen_in decoded cells held) cell).0 worn, λ most. (worn_is (seen_in decoded cells held) cell).1 (count_here ∙ most))

    -- where nothing was committed
    pub seen_still : held' cell ≡ held cell → seen_in decoded cells held' ≡ seen_in decoded cells held
    seen_still here = listed_same cells (λ j. with_count (held' j) (row_held decoded j (held' j))) (λ j. with_count (held j) (row_held decoded j (held j)))
        (λ j lt. ap (λ (h : Option Held). with_count h (row_held decoded j h)) (elim (cases_eq j cell) [
          | inl is ↦ ap held' is ∙ here ∙ ap held (sym is)
          | inr differs ↦ others j differs
        ]))

    module _ (x : R) (payload : List ℕ) (reads : decoded cell payload ≡ Some x) where
      pub between : (size : ℕ) (image : List ℕ) → Between size 2 cells cell held payload image
          → ShowsRows size cells (ReadsAs decoded) (seen_in decoded cells held) image ⊎ ShowsRows size cells (ReadsAs decoded) (put (seen_in decoded cells held) cell x) image
      between size image moment =
          between_seen cells (ReadsAs decoded) (λ j. row_held decoded j (held j)) held (filled_of cells held read) cell inside x payload reads size image moment

      pub seen_after : held' cell ≡ after_commit (held cell) payload → seen_in decoded cells held' ≡ put (seen_in decoded cells held) cell x
      seen_after here =
          seen_put cells (ReadsAs decoded) (λ j. row_held decoded j (held j)) held (filled_of cells held read) cell inside x payload reads
          (λ j. row_held decoded j (held' j)) held' (ap (row_held decoded cell) here ∙ reads) rows_others here others

-- == a commit of a row, by that of its payload ==

on_ok : {A E P Q : Type 0} (r : Result A E) → (P → Q) → OnOk r P → OnOk r Q
on_ok (Ok x) f h = f h
on_ok (Err e) f h = h

on_err : {A E P Q : Type 0} (r : Result A E) → (P → Q) → OnErr r P → OnErr r Q
on_err (Ok x) f h = h
on_err (Err e) f h = f h

-- a storage that is the same
same_stays : {N : Type 0} (g : Ghosts N) (before now : N) → now ≡ before → Stays (g.times before) (g.times now)
same_stays {N} g before now is = subst (λ (s : N). Stays (g.times before) (g.times s)) (sym is) (λ c since. since)

-- cells of a memory, over their storage
abbrev pub view_of : {N : Type 0} → Ghosts N → {L : ℕ} → Room L → N → RowView
view_of g room nv = record { cells = cells_of room; held = kept_in room; content = g.content nv; times = g.times nv; meters = g.meters nv }

module _ {R : Type 0} (decoded : ℕ → List ℕ → Option R) (spelled : ℕ → R → List ℕ) {N : Type 0} (g : Ghosts N) {L : ℕ} (cell : ℕ) (x : R) (payload : List ℕ) (old new : Room L) (before now : N)
    (result : Result (Unit {0}) StoreFail) (did : RoomCommits g cell payload old new before now result) (inside : cell < cells_of old) (read : AllRead decoded (cells_of old) (kept_in old))
    (reads : decoded cell payload ≡ Some x) (value : payload ≡ spelled cell x) where
  -- as many cells as before
  now_seen : seen_in decoded (cells_of new) (kept_in new) ≡ seen_in decoded (cells_of old) (kept_in new)
  now_seen = ap (λ (n : ℕ). seen_in decoded n (kept_in new)) did.puts.cells

  both_ways : (IsErrOf result Worn ↔ ((false ≡ false) × (count_of (kept_in old cell) ≡ MOST_COMMITS))) → IsErrOf result Worn ↔ (is_worn (seen_in decoded (cells_of old) (kept_in old)) cell ≡ true)
  both_ways w =
      let here = worn_here decoded (cells_of old) (kept_in old) (kept_in new) read cell inside did.puts.others in
      (λ is. here.1 (w.0 is).1, λ h. w.1 (refl, here.0 h))

  pub commits_row : CommitsRow g.tells decoded spelled L cell x (view_of g old before) (view_of g new now) result
  commits_row = record {
    done = on_ok result (λ here. now_seen ∙ seen_after decoded (cells_of old) (kept_in old) (kept_in new) read cell inside did.puts.others x payload reads here) did.puts.here;
    stays = on_err result (λ here. now_seen ∙ seen_still decoded (cells_of old) (kept_in old) (kept_in new) read cell inside did.puts.others here) did.puts.unchanged;
    not_failed = λ is. true≢false (sym (did.causes.failed.0 is));
    worn = both_ways did.causes.worn;
    power = did.causes.power;
    fault = did.causes.fault;
    cuts = did.causes.cuts;
    faults = did.causes.faults;
    fuse = did.causes.fuse;
    any_moment = λ tells other c since. between decoded (cells_of old) (kept_in old) (kept_in new) read cell inside did.puts.others x payload reads L c (did.any_moment tells other c since);
    time = did.time;
    fills = λ tells other.
        seen_fills (cells_of old) (ReadsAs decoded) (λ j. row_held decoded j (kept_in old j)) (kept_in old) (filled_of decoded (cells_of old) (kept_in old) read) L cell payload (spelled cell x) inside value _ _ _
        (did.fills tells other);
    calls = did.calls;
    untouched = λ is. (ap (λ (s : N). g.content s) (did.worn is).0, ap (λ (s : N). g.meters s) (did.worn is).0, same_stays g before now (did.worn is).0);
  }

  -- each payload still reads as a row
  pub still_read : AllRead decoded (cells_of new) (kept_in new)
  still_read k lt = elim (cases_eq k cell) [
    | inr differs ↦ subst (λ (o : Option Held). IsRead decoded k o) (sym (did.puts.others k differs)) (read k (omega (arith, lt, did.puts.cells)))
    | inl is ↦ subst (λ (j : ℕ). IsRead decoded j (kept_in new j)) (sym is) (by_result result did.puts.here did.puts.unchanged)
  ]
    where
      by_result : (r : Result (Unit {0}) StoreFail) → OnOk r (kept_in new cell ≡ after_commit (kept_in old cell) payload) → OnErr r (kept_in new cell ≡ kept_in old cell) → IsRead decoded cell (kept_in new cell)
      by_result (Ok done) here same = subst (λ (o : Option Held). IsRead decoded cell o) (sym here) (ap (λ (o : Option R). is_some o) reads)
      by_result (Err fail) here same = subst (λ (o : Option Held). IsRead decoded cell o) (sym same) (read cell inside)
