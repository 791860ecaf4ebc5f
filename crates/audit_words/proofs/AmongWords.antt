-- One among the words after the program's name, by their bytes.
use Rattle.std.proofs.Common.{◌≡◌, ◌≢◌, ℕ, ◌<◌, List, length, map, get_or, sym, ◌∙◌, ap, arith}
use Rattle.std.proofs.lemmas.List.{length-map, get_or-map}
use Rattle.std.specs.List.{Contains}

module _ {S : Type 0} (f : S → List ℕ) where
  -- the word in this place is the one
  pub found_at : (ws : List S) (wanted : List ℕ) (at : ℕ) (item : S) → at < length ws → item ≡ get_or ws at item → f item ≡ wanted → Contains (map f ws) wanted
  found_at ws wanted at item inside is same = (at, omega (arith, inside, length-map ws f), get_or-map f ws at item wanted inside ∙ ap f (sym is) ∙ same)

  -- it isn't
  pub other_at : (ws : List S) (wanted : List ℕ) (at : ℕ) (item : S) → at < length ws → item ≡ get_or ws at item → f item ≢ wanted → get_or (map f ws) at wanted ≢ wanted
  other_at ws wanted at item inside is other = λ same. other (ap f is ∙ sym (get_or-map f ws at item wanted inside) ∙ same)

  -- none is
  pub not_among : (ws : List S) (wanted : List ℕ) (count : ℕ) → count ≡ length ws → ((k : ℕ) → k < count → get_or (map f ws) k wanted ≢ wanted) → Contains (map f ws) wanted → ⊥
  not_among ws wanted count all none has = none has.0 (omega (arith, all, has.1, length-map ws f)) has.2
