-- An image shows one list of rows, and where it shows sound ones it is not damaged.
use Rattle.std.proofs.Common.{◌≡◌, ⊎_elim, ℕ, ◌+◌, ◌*◌, ◌<◌, List, length, Option, Some, None, refl, sym, ◌∙◌, ap, subst, arith}
use Rattle.std.proofs.lemmas.List.{ext_get_or}
use Rattle.nv_model.specs.declared.nv.Nv.{Ghosts}
use Rattle.nv_store.specs.Slot.{Held, slots_at}
use Rattle.nv_store.specs.Store.{cell_shown}
use Rattle.nv_store.specs.Clear.{not_mixed}
use Rattle.node_acts.specs.RowList.{RowList, row_at}
use Rattle.row_node.specs.Shows.{IsHeldAs, ShowsRows, HasMixedCell, HasForeignCell, BreaksTogether, IsDamagedTable}

-- a payload reads as one row
abbrev pub ReadsOne : {R : Type 0} → (ℕ → R → List ℕ → Type 0) → Type 0
ReadsOne {R} reads = (k : ℕ) (x y : R) (p : List ℕ) → reads k x p → reads k y p → x ≡ y

-- a cell holds one count and one row
one_held : {R : Type 0} (reads : R → List ℕ → Type 0) → ((x y : R) (p : List ℕ) → reads x p → reads y p → x ≡ y)
    → (a b : Option (ℕ × R)) (h : Option Held) → IsHeldAs reads a h → IsHeldAs reads b h → a ≡ b
one_held reads one None None h held held' = refl
one_held reads one None (Some y) None held held' = absurd held'
one_held reads one None (Some y) (Some h) held held' = absurd held
one_held reads one (Some x) None None held held' = absurd held
one_held reads one (Some x) None (Some h) held held' = absurd held'
one_held reads one (Some x) (Some y) None held held' = absurd held
one_held {R} reads one (Some x) (Some y) (Some h) held held' =
    ap (λ (n : ℕ). with_both n x.1) (sym held.0 ∙ held'.0) ∙ ap (λ (r : R). with_both y.0 r) (one x.1 y.1 h.1 held.1 held'.1)
  where
    with_both : ℕ → R → Option (ℕ × R)
    with_both n r = Some (n, r)

module _ {R : Type 0} (size cells : ℕ) (reads : ℕ → R → List ℕ → Type 0) (one : ReadsOne reads) where
  -- lists of so many cells that an image shows are the same
  pub one_shown : (a b : RowList R) (image : List ℕ) → length a ≡ cells → length b ≡ cells
      → ShowsRows size cells reads a image → ShowsRows size cells reads b image → a ≡ b
  one_shown a b image long long' shows shows' =
      ext_get_or None a b (long ∙ sym long') (λ k lt.
      let inside : k < cells = omega (arith, long, lt) in
      one_held (reads k) (one k) (row_at a k) (row_at b k) (cell_shown size 2 image k) (shows.each k inside) (shows'.each k inside))

  not_foreign : (s : RowList R) (image : List ℕ) → ShowsRows size cells reads s image → HasForeignCell size cells reads image → ⊥
  not_foreign s image shows foreign =
      by_row (row_at s foreign.cell) (subst (λ (o : Option Held). IsHeldAs (reads foreign.cell) (row_at s foreign.cell) o) foreign.shown
      (shows.each foreign.cell foreign.inside))
    where
      by_row : (o : Option (ℕ × R)) → IsHeldAs (reads foreign.cell) o (Some foreign.held) → ⊥
      by_row None held = held
      by_row (Some x) held = foreign.reads_none x.1 held.1

  -- storage that shows sound rows is not damaged
  pub intact : (IsSound : RowList R → Type 0) {N : Type 0} (g : Ghosts N) (s : RowList R) (nv : N) → length s ≡ cells → IsSound s
      → ShowsRows size cells reads s (g.content nv) → g.size nv ≡ cells * (2 * (5 + size))
      → IsDamagedTable size cells reads IsSound g nv → ⊥
  intact IsSound g s nv long sound shows size_is damaged =
      let image = g.content nv in
      ⊎_elim (λ other. other size_is)
      (λ wrong. ⊎_elim (λ (m : HasMixedCell size cells reads image). not_mixed 2 (slots_at size (m.cell * (2 * (5 + size))) image) m.mixed
      (shows.clear m.cell m.inside))
      (λ rest. ⊎_elim (λ foreign. not_foreign s image shows foreign)
      (λ (b : BreaksTogether size cells reads IsSound image). b.breaks (subst IsSound (one_shown s b.rows image long b.long shows b.shows) sound)) rest)
      wrong.1)
      damaged
