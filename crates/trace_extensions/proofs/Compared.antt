-- Texts of an answer that were compared with lines of the report.
use Rattle.std.proofs.Common.{◌≡◌, inl, inr, ℕ, zero, suc, ◌+◌, ◌-◌, ◌≤◌, List, [], ◌∷◌, ◌++◌, length, take, drop, flat_map, Bool, true, false, Option, Some, refl, sym, ◌∙◌, ap, subst, arith, append_assoc, append-nil}
use Rattle.std.specs.Prelude.{slice_get}
use Rattle.std.specs.Io.KnownBytes.{Consumes, IsAtEnd}
use Rattle.std.proofs.KnownBytes.{Consumes-nil, Consumes-trans}
use Rattle.std.proofs.lemmas.List.{take_all}
use Rattle.std.proofs.Math.Seq.{drop-append_seam}
use Rattle.std.specs.List.{AllByRecursion}
use Rattle.line_runs.specs.Lines.{ended, IsLineIn}
use Rattle.line_extensions.proofs.Texts.{more_texts}
use Rattle.trace_bench.specs.Stopping.{IsPrefixOf}
use Rattle.trace_extensions.specs.Fits.{IsText}
use Rattle.trace_extensions.specs.FitsStopped.{IsCutOf}
use Rattle.trace_extensions.proofs.Texts.{AreLines}

-- the texts up to number n from the second on are what was read
pub record ReadTo (texts : List (List ℕ)) (n : ℕ) (a b : Option (List ℕ)) : Type 0 where
  pub rest : List ℕ
  pub is : flat_map ended (take n texts) ≡ flat_map ended (take 1 texts) ++ rest
  pub read : Consumes a b rest

pub read_none : (texts : List (List ℕ)) (a : Option (List ℕ)) → ReadTo texts 1 a a
read_none texts a = record { rest = []; is = sym (append-nil (flat_map ended (take 1 texts))); read = Consumes-nil a }

pub read_more : (texts : List (List ℕ)) (n : ℕ) (t line : List ℕ) (a b c : Option (List ℕ)) → slice_get texts n ≡ Some t → line ≡ t → ReadTo texts n a b → Consumes b c (ended line)
    → ReadTo texts (n + 1) a c
read_more texts n t line a b c at is so next = record {
  rest = so.rest ++ ended t;
  is = more_texts texts n t at ∙ ap (λ (l : List ℕ). l ++ ended t) so.is ∙ append_assoc (flat_map ended (take 1 texts)) so.rest (ended t);
  read = Consumes-trans a b c so.rest (ended t) so.read (subst (λ (l : List ℕ). Consumes b c (ended l)) is next);
}

pub read_all : (texts : List (List ℕ)) (n : ℕ) (a b : Option (List ℕ)) → length texts ≤ n → ReadTo texts n a b
    → (rest : List ℕ) × (flat_map ended texts ≡ flat_map ended (take 1 texts) ++ rest) × Consumes a b rest
read_all texts n a b all so = (so.rest, ap (λ (l : List (List ℕ)). flat_map ended l) (sym (take_all n texts all)) ∙ so.is, so.read)

-- == the report ends within a text ==

-- a line without its line end was read, up to the end
pub cut_line : (a b : Option (List ℕ)) (is_ended : Bool) (line bytes : List ℕ) → is_ended ≡ false → IsLineIn is_ended line bytes (IsAtEnd b) → Consumes a b bytes → Consumes a b line × IsAtEnd b
cut_line a b false line bytes is inside read = (subst (λ (l : List ℕ). Consumes a b l) inside.0 read, inside.2)
cut_line a b true line bytes is inside read = absurd (cc is)

-- nothing was read, up to the end
pub no_line : (a b : Option (List ℕ)) (bytes : List ℕ) → bytes ≡ [] → Consumes a b bytes → IsAtEnd b → Consumes a b [] × IsAtEnd b
no_line a b bytes none read end = (subst (λ (l : List ℕ). Consumes a b l) none read, end)

-- bytes that begin a text, after those before it
cut_at : (texts : List (List ℕ)) (k : ℕ) (t part : List ℕ) → slice_get texts k ≡ Some t → AllByRecursion IsText (take k texts) → IsPrefixOf part t → IsText part → IsCutOf (flat_map ended (take k texts) ++ part) texts
cut_at [] k t part at each begins is = absurd (cc at)
cut_at (x ∷ texts) zero t part at each begins is = let same : t ≡ x = cc at in inl (subst (λ (l : List ℕ). IsPrefixOf part l) same begins, is)
cut_at (x ∷ texts) (suc k) t part at each begins is =
    inr (flat_map ended (take k texts) ++ part, append_assoc (ended x) (flat_map ended (take k texts)) part, each.0, cut_at texts k t part at each.1 begins is)

-- they begin the first one
pub cut_begins : (texts : List (List ℕ)) (t part : List ℕ) → slice_get texts 0 ≡ Some t → IsPrefixOf part t → IsText part → IsCutOf part texts
cut_begins texts t part at begins is = cut_at texts 0 t part at tt begins is

-- the first one was read, and they end within those after it
pub cut_behind : (texts : List (List ℕ)) (t line rest : List ℕ) → slice_get texts 0 ≡ Some t → t ≡ line → IsText line → IsCutOf rest (drop 1 texts) → IsCutOf (ended line ++ rest) texts
cut_behind [] t line rest at same is cut = absurd (cc at)
cut_behind (x ∷ texts) t line rest at same is cut =
    let first : line ≡ x = cc (at, same) in
    inr (rest, ap (λ (l : List ℕ). ended l ++ rest) first, subst (λ (l : List ℕ). IsText l) first is, cut)

pub same_rest : (front a b : List ℕ) → front ++ a ≡ front ++ b → a ≡ b
same_rest front a b is = sym (drop-append_seam front a) ∙ ap (λ (l : List ℕ). drop (length front) l) is ∙ drop-append_seam front b

pub read_within : (texts : List (List ℕ)) (n : ℕ) (t line part : List ℕ) (a b c : Option (List ℕ)) → slice_get texts n ≡ Some t → line ≡ t → 1 ≤ n → AreLines texts n → ReadTo texts n a b → IsPrefixOf part line → IsText part → Consumes b c part
    → (rest : List ℕ) × IsCutOf rest (drop 1 texts) × Consumes a c rest
read_within [] n t line part a b c at same some lines so begins is more = absurd (cc at)
read_within (x ∷ texts) zero t line part a b c at same some lines so begins is more = absurd (omega (arith, some))
read_within (x ∷ texts) (suc k) t line part a b c at same some lines so begins is more =
    let before : suc k - 1 ≡ k = omega arith in
    let rest_is : so.rest ≡ flat_map ended (take k texts) = sym (same_rest (ended x) (flat_map ended (take k texts)) so.rest (so.is ∙ ap (λ (l : List ℕ). l ++ so.rest) (append-nil (ended x)))) in
    let cut = cut_at texts k t part at (subst (λ (j : ℕ). AllByRecursion IsText (take j texts)) before (lines x texts refl)) (subst (λ (l : List ℕ). IsPrefixOf part l) same begins) is in (
      so.rest ++ part,
      subst (λ (l : List ℕ). IsCutOf (l ++ part) texts) (sym rest_is) cut,
      Consumes-trans a b c so.rest part so.read more,
    )
