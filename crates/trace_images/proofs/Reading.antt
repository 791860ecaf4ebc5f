-- What the newest slots of its cells say of an image.
use Rattle.std.proofs.Common.{◌≡◌, inl, inr, ℕ, ◌+◌, ◌<◌, List, [], ◌∷◌, ◌++◌, length, Option, Some, None, sym, subst, ◌∙◌, arith}
use Rattle.std.proofs.Math.ListN.{get_or-append}
use Rattle.std.proofs.Math.Seq.{get_or-append_seam}
use Rattle.std.proofs.lemmas.Bool.{cases_eq}
use Rattle.nv_store.specs.Slot.{Held, slots_at}
use Rattle.node_acts.specs.RowList.{RowList, row_at}
use Rattle.row_node.specs.Shows.{ShowsRows}
use Rattle.row_node.specs.ShowsLaws.{ReadsOne, one_shown}
use Rattle.nv_bytes.specs.Newest.{ShowsHeld}
use Rattle.node_images.specs.Cells.{ShowsCell}
use Rattle.node_images.specs.Joined.{bytes_of}
use Rattle.node_images.proofs.Join.{joins}
use Rattle.node_images.proofs.Shown.{none_back, row_back}

payload_same : (a b : Held) → ◌≡◌ {A = Option Held} (Some a) (Some b) → a.1 ≡ b.1
payload_same a b is = cc is

module _ {R : Type 0} (size : ℕ) (reads : R → List ℕ → Type 0) (cell : List ℕ) where
  -- a cell with a payload that reads as no row shows nothing
  pub none_reads : (count : ℕ) (payload : List ℕ) → ShowsHeld 2 (slots_at size 0 cell) (count, payload) → ((x : R) → reads x payload → ⊥)
      → (seen : Option (ℕ × R)) → ShowsCell size reads seen cell → ⊥
  none_reads count payload shows none None shown = let is = sym (none_back size reads cell shown).shown ∙ shows.shown in cc
  none_reads count payload shows none (Some y) shown =
      let back = row_back size reads cell y.0 y.1 shown in
      none y.1 (subst (λ (p : List ℕ). reads y.1 p) (payload_same (y.0, back.bytes) (count, payload) (sym back.shows.shown ∙ shows.shown)) back.row)

module _ {R : Type 0} (size cells : ℕ) (reads : ℕ → R → List ℕ → Type 0) (image : List ℕ) where
  -- an image shows no rows if one of its cells shows none
  pub no_image : (k : ℕ) → k < cells → ((seen : Option (ℕ × R)) → ShowsCell size (reads k) seen (bytes_of size k image) → ⊥)
      → (s : RowList R) → ShowsRows size cells reads s image → ⊥
  no_image k lt none s shows = none (row_at s k) ((joins size cells reads s image).0 shows k lt)

  -- it shows those that each of its cells shows
  pub whole_image : (s : RowList R) → ((k : ℕ) → k < cells → ShowsCell size (reads k) (row_at s k) (bytes_of size k image)) → ShowsRows size cells reads s image
  whole_image s each = (joins size cells reads s image).1 each

  -- and no others that fulfil a condition that those break
  pub no_other : (IsSound : RowList R → Type 0) → ReadsOne reads → (s : RowList R) → length s ≡ cells → ShowsRows size cells reads s image → (IsSound s → ⊥)
      → (t : RowList R) → length t ≡ cells → IsSound t → ShowsRows size cells reads t image → ⊥
  no_other IsSound one s long shows breaks t many sound shown = breaks (subst IsSound (one_shown size cells reads one t s image many long shown shows) sound)

-- what holds of each cell so far, and of the next one, holds with it
pub more_cells : {R : Type 0} (P : ℕ → Option (ℕ × R) → Type 0) (n : ℕ) (s : RowList R) (seen : Option (ℕ × R)) → length s ≡ n → ((k : ℕ) → k < n → P k (row_at s k))
    → P n seen → (k : ℕ) → k < n + 1 → P k (row_at (s ++ (seen ∷ [])) k)
more_cells {R} P n s seen long each here k lt = elim (cases_eq k n) [
  | inl is ↦
      subst (λ (j : ℕ). P j (row_at (s ++ (seen ∷ [])) j)) (long ∙ sym is)
      (subst (λ (o : Option (ℕ × R)). P (length s) o) (sym (get_or-append_seam s seen [] None)) (subst (λ (j : ℕ). P j seen) (sym long) here))
  | inr differs ↦
      let inside : k < n = omega (arith, lt, differs) in
      subst (λ (o : Option (ℕ × R)). P k o) (sym (get_or-append s (seen ∷ []) None k (omega (arith, inside, long)))) (each k inside)
]
