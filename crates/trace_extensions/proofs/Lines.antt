-- What is left of a report whose bytes are known, by a line that was read of it.
use Rattle.std.proofs.Common.{◌≡◌, ◌⊎◌, inl, inr, ℕ, zero, suc, ◌≤◌, List, [], ◌∷◌, ◌++◌, length, take, drop, Bool, true, false, Option, Some, None, refl, sym, ◌∙◌, ap, subst, arith, append_assoc, append-nil, take-append-drop}
use Rattle.std.proofs.lemmas.List.{length-append, length-take-le}
use Rattle.std.proofs.lemmas.Option.{same_Some}
use Rattle.std.specs.Io.KnownBytes.{Consumes, IsAtEnd}
use Rattle.std.proofs.lemmas.List.Elements.{recursion_from_All}
use Rattle.bench_base.specs.declared.events.Reply.{Reply}
use Rattle.script_text.specs.Texts.{text_of, IsWholeReply}
use Rattle.script_text.proofs.EachReply.{one_line_of}
use Rattle.line_runs.specs.Lines.{IsOneLine, ended, IsLineIn}
use Rattle.line_runs.proofs.Held.{from_all}
use Rattle.trace_bench.specs.Stopping.{IsPrefixOf}
use Rattle.trace_extensions.specs.Exact.{HasNext}

-- the text of a reply is one line
pub one_text_line : (r : Reply) → IsWholeReply r → IsOneLine (text_of r)
one_text_line r whole = from_all (text_of r) (recursion_from_All _ (text_of r) (one_line_of r whole))

-- the known bytes are those that were taken, and those that are left
pub known : (a b : Option (List ℕ)) (bytes all : List ℕ) → Consumes a b bytes → a ≡ Some all → (left : List ℕ) × (b ≡ Some left) × (all ≡ bytes ++ left)
known None b bytes all took is = absurd (cc is)
known (Some x) None bytes all took is = absurd took
known (Some x) (Some left) bytes all took is = (left, refl, sym (same_Some x all is) ∙ took)

-- two lines with what follows them are the same in one way
pub one_split : (a b x y : List ℕ) → IsOneLine a → IsOneLine b → ended a ++ x ≡ ended b ++ y → (a ≡ b) × (x ≡ y)
one_split [] [] x y one two is = (refl, cc)
one_split [] (d ∷ b) x y one two is = let same : 10 ≡ d = cc in absurd (two.0 (sym same))
one_split (c ∷ a) [] x y one two is = let same : c ≡ 10 = cc in absurd (one.0 same)
one_split (c ∷ a) (d ∷ b) x y one two is =
    let heads : c ≡ d = cc in
    let w = one_split a b x y one.1 two.1 (cc) in
    (ap (λ (l : List ℕ). c ∷ l) w.0 ∙ ap (λ (n : ℕ). n ∷ b) heads, w.1)

-- a line end stands among them
pub not_one : (a x : List ℕ) → IsOneLine (ended a ++ x) → ⊥
not_one [] x one = one.0 refl
not_one (c ∷ a) x one = not_one a x one.1

pub one_front : (a b : List ℕ) → IsOneLine (a ++ b) → IsOneLine a
one_front [] b one = tt
one_front (c ∷ a) b one = (one.0, one_front a b one.1)

-- bytes without a line end are a prefix of the line, if a line and what follows it begin with them
pub prefix_of : (text x prefix behind : List ℕ) → IsOneLine prefix → ended text ++ x ≡ prefix ++ behind → IsPrefixOf prefix text
prefix_of text x [] behind one is = (text, refl)
prefix_of [] x (c ∷ prefix) behind one is = let same : c ≡ 10 = cc is in absurd (one.0 same)
prefix_of (t ∷ text) x (c ∷ prefix) behind one is =
    let head : t ≡ c = cc is in
    let w = prefix_of text x prefix behind one.1 (cc is) in
    (w.0, ap (λ (n : ℕ). n ∷ text) head ∙ ap (λ (l : List ℕ). c ∷ l) w.1)

module _ (a b : Option (List ℕ)) (text told : List ℕ) (one : IsOneLine text) (has : HasNext a text told) where
  -- the line that was read is that line
  pub same_line : (is_ended : Bool) (line bytes : List ℕ) → is_ended ≡ true → IsOneLine line → IsLineIn is_ended line bytes (IsAtEnd b) → Consumes a b bytes → (line ≡ text) × (b ≡ Some told)
  same_line true line bytes is line_one inside took =
      let w = known a b bytes (ended text ++ told) took has in
      let split = one_split text line told w.0 one line_one (w.2 ∙ ap (λ (l : List ℕ). l ++ w.0) inside) in
      (sym split.0, w.1 ∙ ap (λ (l : List ℕ). Some l) (sym split.1))
  same_line false line bytes is line_one inside took = absurd (cc is)

  -- the report doesn't end within a line
  pub not_within : (is_ended : Bool) (line bytes : List ℕ) → is_ended ≡ false → IsOneLine line → IsLineIn is_ended line bytes (IsAtEnd b) → Consumes a b bytes → ⊥
  not_within true line bytes is line_one inside took = cc is
  not_within false line bytes is line_one inside took =
      let w = known a b bytes (ended text ++ told) took has in
      let end : w.0 ≡ [] = ends b w.0 w.1 inside.2 in
      not_one text told (subst (λ (l : List ℕ). IsOneLine l) (sym (w.2 ∙ ap (λ (l : List ℕ). bytes ++ l) end ∙ append-nil bytes ∙ inside.0)) line_one)
    where
      ends : (o : Option (List ℕ)) (left : List ℕ) → o ≡ Some left → IsAtEnd o → left ≡ []
      ends None left is at = absurd (cc is)
      ends (Some x) left is at = sym (same_Some x left is) ∙ at

  -- it isn't at its end
  pub not_at_end : (bytes : List ℕ) → bytes ≡ [] → IsAtEnd b → Consumes a b bytes → ⊥
  not_at_end bytes none at took =
      let w = known a b bytes (ended text ++ told) took has in
      by text w.0 (ends b w.0 w.1 at) (w.2 ∙ ap (λ (l : List ℕ). l ++ w.0) none)
    where
      ends : (o : Option (List ℕ)) (left : List ℕ) → o ≡ Some left → IsAtEnd o → left ≡ []
      ends None left is at = absurd (cc is)
      ends (Some x) left is at = sym (same_Some x left is) ∙ at

      by : (t x : List ℕ) → x ≡ [] → ended t ++ told ≡ x → ⊥
      by [] x none is = cc (none, is)
      by (c ∷ t) x none is = cc (none, is)

  -- bytes of it without a line end begin the line
  pub begins_line : (bytes : List ℕ) → IsOneLine bytes → Consumes a b bytes → IsPrefixOf bytes text
  begins_line bytes bytes_one took =
      let w = known a b bytes (ended text ++ told) took has in
      prefix_of text told bytes w.0 bytes_one w.2

  -- so no longer line was read
  pub not_long : (bytes : List ℕ) → IsOneLine bytes → length bytes ≡ 601 → length text ≤ 600 → Consumes a b bytes → ⊥
  not_long bytes bytes_one long short took =
      let w = begins_line bytes bytes_one took in
      let sum = ap (λ (l : List ℕ). length l) w.1 ∙ length-append bytes w.0 in
      omega (arith, long, short, sum)

take_le : (n : ℕ) (l : List ℕ) → length (take n l) ≤ n
take_le zero l = omega arith
take_le (suc n) [] = omega arith
take_le (suc n) (x ∷ l) = let w = take_le n l in omega (arith, w)

-- what was read of a line is no longer than its room
pub take_short : (n : ℕ) (buf : List ℕ) → n ≤ 600 → length (take n buf) ≤ 600
take_short n buf few = let w = take_le n buf in omega (arith, w, few)

-- nothing was read where nothing is left
none_read : (a b : Option (List ℕ)) (bytes : List ℕ) → Consumes a b bytes → a ≡ Some [] → bytes ≡ []
none_read a b bytes took empty = let w = known a b bytes [] took empty in by bytes w.0 w.2
  where
    by : (x y : List ℕ) → [] ≡ x ++ y → x ≡ []
    by [] y is = refl
    by (c ∷ x) y is = absurd (cc (is))

pub no_line_read : (a b : Option (List ℕ)) (is_ended : Bool) (line bytes : List ℕ) (end : Type 0) → Consumes a b bytes → a ≡ Some [] → IsLineIn is_ended line bytes end → ⊥
no_line_read a b true line bytes end took empty inside = by line (sym inside ∙ none_read a b bytes took empty)
  where
    by : (x : List ℕ) → ended x ≡ [] → ⊥
    by [] is = cc (is)
    by (c ∷ x) is = cc (is)
no_line_read a b false line bytes end took empty inside =
    let zero : length line ≡ 0 = ap (λ (l : List ℕ). length l) (sym inside.0 ∙ none_read a b bytes took empty) in
    omega (arith, zero, inside.1)

pub no_long_read : (a b : Option (List ℕ)) (bytes : List ℕ) → Consumes a b bytes → a ≡ Some [] → length bytes ≡ 601 → ⊥
no_long_read a b bytes took empty long = let zero : length bytes ≡ 0 = ap (λ (l : List ℕ). length l) (none_read a b bytes took empty) in omega (arith, zero, long)

-- the first 600 bytes of a longer line begin the text, too
pub long_missed : (P : Type 0) (bytes buf text : List ℕ) → IsPrefixOf bytes text → length bytes ≡ 601 → take 600 bytes ≡ buf → (IsPrefixOf buf text → P ⊎ (length buf ≤ 256)) → P
long_missed P bytes buf text (m, is) long front missed =
    let all : bytes ≡ buf ++ drop 600 bytes = sym (take-append-drop 600 bytes) ∙ ap (λ (l : List ℕ). l ++ drop 600 bytes) front in
    let begins : IsPrefixOf buf text = (drop 600 bytes ++ m, is ∙ ap (λ (l : List ℕ). l ++ m) all ∙ append_assoc buf (drop 600 bytes) m) in
    let size : length buf ≡ 600 = sym (ap (λ (l : List ℕ). length l) front) ∙ length-take-le 600 bytes (omega (arith, long)) in
    elim (missed begins) [
      | inl p ↦ p
      | inr short ↦ absurd (omega (arith, size, short))
    ]
