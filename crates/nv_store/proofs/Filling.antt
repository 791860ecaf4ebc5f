-- What the three writes of a commit leave, by their bytes.
use Rattle.std.proofs.Common.{◌≡◌, inl, inr, ℕ, ◌+◌, ◌≤◌, List, [], ◌∷◌, ◌++◌, length, take, drop, Bool, true, false, sym, ◌∙◌, ap, subst, arith, append_assoc, length-append}
use Rattle.std.proofs.lemmas.List.{length-take-le, drop_at}
use Rattle.std.specs.Prelude.{is_some, if◌then◌else◌}
use Rattle.std.specs.Int.{to_be_bytes, w32}
use Rattle.nv_model.specs.Bytes.{SameOutside, laid}
use Rattle.nv_model.proofs.Ranges.{outside_wider, laid_outside}
use Rattle.nv_model.proofs.Runs.{outside_twice, outside_none}
use Rattle.nv_store.specs.Slot.{Held, slot_at}
use Rattle.nv_store.specs.Fills.{filled, closed, IsFilling}

outside_back : (at n : ℕ) (a b : List ℕ) → SameOutside at n a b → SameOutside at n b a
outside_back at n a b same = record { size = sym same.size; before = sym same.before; after = sym same.after }

-- closing a slot's gate leaves the bytes after it as before
pub closed_torn : (size at : ℕ) (old : List ℕ) → at + 1 ≤ length old → SameOutside at 1 old (closed size at old)
closed_torn size at old room = by_gate (is_some (slot_at size at old))
  where
    by_gate : (b : Bool) → SameOutside at 1 old (if b then laid old at (0 ∷ []) else old)
    by_gate true = laid_outside old at (0 ∷ []) room
    by_gate false = outside_none at 1 old

module _ (size at : ℕ) (held : Held) (old : List ℕ) (room : at + 5 + size ≤ length old) (long : length held.1 ≡ size) where
  abbrev bytes : List ℕ
  bytes = to_be_bytes w32 held.0 ++ held.1

  pub bytes_long : length bytes ≡ 4 + size
  bytes_long = omega (arith, length-append (to_be_bytes w32 held.0) held.1, long)

  abbrev shut : List ℕ
  shut = closed size at old

  -- the content once all but the gate is written
  abbrev written : List ℕ
  written = laid shut (at + 1) bytes

  abbrev rest : List ℕ
  rest = drop (at + 1 + length bytes) shut

  torn : SameOutside at 1 old shut
  torn = closed_torn size at old (omega (arith, room))

  fits : at + 1 + length bytes ≤ length shut
  fits = omega (arith, torn.size, bytes_long, room)

  front_same : take at written ≡ take at old
  front_same =
      (outside_wider at (1 + length bytes) (at + 1) (length bytes) shut written (laid_outside shut (at + 1) bytes fits) (omega arith) (omega arith)).before
      ∙ torn.before

  back_same : drop (at + 1) written ≡ bytes ++ rest
  back_same =
      ap (λ (l : List ℕ). drop (at + 1) l) (append_assoc (take (at + 1) shut) bytes rest)
      ∙ drop_at (take (at + 1) shut) (bytes ++ rest) (at + 1) (length-take-le (at + 1) shut (omega (arith, fits)))

  rest_same : rest ≡ drop (at + length (filled held)) old
  rest_same =
      ap (λ (k : ℕ). drop k shut) (omega arith)
      ∙ (outside_wider at (1 + length bytes) at 1 old shut torn (omega arith) (omega arith)).after
      ∙ ap (λ (k : ℕ). drop k old) (omega arith)

  pub opened_is : laid written at (165 ∷ []) ≡ laid old at (filled held)
  opened_is =
      ap (λ (l : List ℕ). (l ++ (165 ∷ [])) ++ drop (at + 1) written) front_same
      ∙ ap (λ (l : List ℕ). (take at old ++ (165 ∷ [])) ++ l) back_same
      ∙ append_assoc (take at old) (165 ∷ []) (bytes ++ rest)
      ∙ sym (append_assoc (take at old) (filled held) rest)
      ∙ ap (λ (l : List ℕ). (take at old ++ filled held) ++ l) rest_same

  -- each image of the second write, and of the third
  pub second : (mid c : List ℕ) → mid ≡ shut → SameOutside (at + 1) (length bytes) mid c → IsFilling size at held old c
  second mid c is same =
      inr (inl (subst (λ (n : ℕ). SameOutside (at + 1) n shut c) bytes_long (subst (λ (l : List ℕ). SameOutside (at + 1) (length bytes) l c) is same)))

  written_long : at + 1 ≤ length written
  written_long = omega (arith, (laid_outside shut (at + 1) bytes fits).size, fits)

  pub third : (mid c : List ℕ) → mid ≡ written → SameOutside at 1 mid c → IsFilling size at held old c
  third mid c is same =
      let whole : SameOutside at 1 written (laid old at (filled held)) = subst (λ (l : List ℕ). SameOutside at 1 written l) opened_is (laid_outside written at (165 ∷ []) written_long) in
      inr (inr (outside_twice at 1 (laid old at (filled held)) written c (outside_back at 1 written (laid old at (filled held)) whole) (subst (λ (l : List ℕ). SameOutside at 1 l c) is same)))

-- what was laid over a content, and over the same
pub laid_both : (at : ℕ) (bytes old mid new : List ℕ) → old ≡ mid → new ≡ laid old at bytes → new ≡ laid mid at bytes
laid_both at bytes old mid new same is = is ∙ ap (λ (l : List ℕ). laid l at bytes) same
