-- A torn write is the write, and then a fill of its rest.
use Rattle.std.proofs.Common.{◌≡◌, inl, inr, ⊎_elim, true, Result, Ok, Err, OnOk, ℕ, ◌+◌, ◌-◌, ◌≤◌, min, List, ◌++◌, length, take, drop, replicate, sym, ◌∙◌, ap, subst, arith, refl, append_assoc, length-append}
use Rattle.std.proofs.lemmas.List.{take-append-le, length-take-le, length-take, length-replicate, take_all, drop-drop, replicate-append-replicate}
use Rattle.std.proofs.lemmas.Bool.{cases_lt}
use Rattle.std.proofs.Math.Seq.{take-append-add, take-append_seam, drop-append-add, drop-append_seam}
use Rattle.std.specs.Prelude.{is_ok}
use Rattle.nv_model.specs.Meters.{Meters, Counts, Failing}
use Rattle.nv_model.specs.Bytes.{laid, SameOutside}
use Rattle.nv_model.proofs.Ranges.{laid_outside}
use Rattle.nv_model.specs.Plans.{torn, filled}

pub torn_laid : (old : List ℕ) (at : ℕ) (piece : List ℕ) (keep byte : ℕ) → at + length piece ≤ length old → filled (laid old at piece) at (length piece) keep byte ≡ torn old at piece keep byte
torn_laid old at piece keep byte room =
    let n = length piece in
    let k = min keep n in
    let k_le : k ≤ n = omega arith in
    let front = take at old in
    let back = drop (at + n) old in
    let x = front ++ piece ++ back in
    let parted : x ≡ front ++ (piece ++ back) = append_assoc front piece back in
    let run = replicate (n - k) byte in
    let long : length front ≡ at = length-take-le at old (omega (arith, room)) in
    let long_run : length run ≡ n - k = length-replicate (n - k) byte in
    let first : take (at + k) x ≡ front ++ take k piece = ap (λ (m : ℕ). take (m + k) x) (sym long) ∙ ap (λ (l : List ℕ). take (length front + k) l) parted ∙ take-append-add front (piece ++ back) k ∙ ap (λ (l : List ℕ). front ++ l) (take-append-le k piece back k_le) in
    let place : at + k + length run ≡ length front + n = omega (arith, long, long_run, k_le) in
    let last : drop (at + k + length run) x ≡ back = ap (λ (m : ℕ). drop m x) place ∙ ap (λ (l : List ℕ). drop (length front + n) l) parted ∙ drop-append-add front (piece ++ back) n ∙ drop-append_seam piece back in
    let whole = take keep piece ++ replicate (n - keep) byte in
    let same : take k piece ++ run ≡ whole = ap (λ (l : List ℕ). l ++ run) (kept k refl) ∙ ap (λ (m : ℕ). take keep piece ++ replicate m byte) (omega arith) in
    let long_both : length (take k piece ++ run) ≡ n = omega (arith, length-append (take k piece) run, long_run, k_le, length-take-le k piece k_le) in
    let long_whole : length whole ≡ n = sym (ap length same) ∙ long_both in
    ap (λ (l : List ℕ). l ++ run ++ drop (at + k + length run) x) first
    ∙ ap (λ (l : List ℕ). front ++ take k piece ++ run ++ l) last
    ∙ ap (λ (l : List ℕ). l ++ back) (append_assoc front (take k piece) run)
    ∙ ap (λ (l : List ℕ). front ++ l ++ back) same
    ∙ ap (λ (m : ℕ). front ++ whole ++ drop (at + m) old) (sym long_whole)
  where
    kept : (k : ℕ) → k ≡ min keep (length piece) → take k piece ≡ take keep piece
    kept k is = elim (cases_lt keep (length piece)) [
      | inl lt ↦ ap (λ (m : ℕ). take m piece) (omega (arith, is, lt))
      | inr ge ↦ take_all k piece (omega (arith, is, ge)) ∙ sym (take_all keep piece ge)
    ]

pub torn_outside : (old : List ℕ) (at : ℕ) (piece : List ℕ) (keep byte : ℕ) → at + length piece ≤ length old → SameOutside at (length piece) old (torn old at piece keep byte)
torn_outside old at piece keep byte room =
    let n = length piece in
    let whole = take keep piece ++ replicate (n - keep) byte in
    let long : length whole ≡ n = omega (arith, length-append (take keep piece) (replicate (n - keep) byte), length-replicate (n - keep) byte, length-take keep piece) in
    subst (λ (m : ℕ). SameOutside at m old (laid old at whole)) long (laid_outside old at whole (omega (arith, long, room)))

-- bytes, and then those after them
pub laid_next : (old : List ℕ) (at : ℕ) (a b : List ℕ) → at + length a + length b ≤ length old → laid (laid old at a) (at + length a) b ≡ laid old at (a ++ b)
laid_next old at a b room =
    let front = take at old in
    let back = drop (at + length a) old in
    let x = front ++ a ++ back in
    let long : length front ≡ at = length-take-le at old (omega (arith, room)) in
    let place : at + length a ≡ length (front ++ a) = omega (arith, long, length-append front a) in
    let first : take (at + length a) x ≡ front ++ a = ap (λ (m : ℕ). take m x) place ∙ take-append_seam (front ++ a) back in
    let last : drop (at + length a + length b) x ≡ drop (at + length (a ++ b)) old =
    ap (λ (m : ℕ). drop m x) (omega (arith, place)) ∙ drop-append-add (front ++ a) back (length b) ∙ drop-drop (length b) (at + length a) old ∙ ap (λ (m : ℕ). drop m old) (omega (arith, length-append a b)) in
    ap (λ (l : List ℕ). l ++ b ++ drop (at + length a + length b) x) first
    ∙ ap (λ (l : List ℕ). front ++ a ++ b ++ l) last
    ∙ ap (λ (l : List ℕ). l ++ drop (at + length (a ++ b)) old) (append_assoc front a b)

-- a run, and then more of it
pub run_next : (old : List ℕ) (at m n byte : ℕ) → at + m + n ≤ length old → laid (laid old at (replicate m byte)) (at + m) (replicate n byte) ≡ laid old at (replicate (m + n) byte)
run_next old at m n byte room =
    let a = replicate m byte in
    let b = replicate n byte in
    let long : length a ≡ m = length-replicate m byte in
    let long' : length b ≡ n = length-replicate n byte in
    ap (λ (k : ℕ). laid (laid old at a) (at + k) b) (sym long) ∙ laid_next old at a b (omega (arith, long, long', room)) ∙ ap (λ (l : List ℕ). laid old at l) (replicate-append-replicate m n byte)

-- the same, with the contents in between named
pub run_more : (old mid new : List ℕ) (at m n byte : ℕ) → at + m + n ≤ length old → mid ≡ laid old at (replicate m byte) → new ≡ laid mid (at + m) (replicate n byte) → new ≡ laid old at (replicate (m + n) byte)
run_more old mid new at m n byte room was now = now ∙ ap (λ (l : List ℕ). laid l (at + m) (replicate n byte)) was ∙ run_next old at m n byte room

-- the kept bytes, and then the fill
pub kept_then : (old : List ℕ) (at : ℕ) (bytes : List ℕ) (keep byte : ℕ) → at + length bytes ≤ length old
    → laid (laid old at (take (min keep (length bytes)) bytes)) (at + min keep (length bytes)) (replicate (length bytes - min keep (length bytes)) byte) ≡ torn old at bytes keep byte
kept_then old at bytes keep byte room =
    let n = length bytes in
    let k = min keep n in
    let a = take k bytes in
    let b = replicate (n - k) byte in
    let k_le : k ≤ n = omega arith in
    let long : length a ≡ k = length-take-le k bytes k_le in
    let long' : length b ≡ n - k = length-replicate (n - k) byte in
    ap (λ (m : ℕ). laid (laid old at a) (at + m) b) (sym long) ∙ laid_next old at a b (omega (arith, long, long', k_le, room))
    ∙ ap (λ (l : List ℕ). laid old at (l ++ b)) (kept k refl) ∙ ap (λ (m : ℕ). laid old at (take keep bytes ++ replicate m byte)) (omega arith)
  where
    kept : (k : ℕ) → k ≡ min keep (length bytes) → take k bytes ≡ take keep bytes
    kept k is = elim (cases_lt keep (length bytes)) [
      | inl lt ↦ ap (λ (m : ℕ). take m bytes) (omega (arith, is, lt))
      | inr ge ↦ take_all k bytes (omega (arith, is, ge)) ∙ sym (take_all keep bytes ge)
    ]

pub on_true : {T E P : Type 0} (r : Result T E) → is_ok r ≡ true → OnOk r P → P
on_true (Ok x) is p = p
on_true (Err e) is p = cc is

-- a count that rose since a later moment rose since an earlier one
pub failing_since : (before mid now : Meters) → Counts before mid → Failing mid now → Failing before now
failing_since before mid now counts failing = ⊎_elim (λ cuts. inl (omega (arith, counts.cuts, cuts))) (λ faults. inr (omega (arith, counts.faults, faults))) failing
