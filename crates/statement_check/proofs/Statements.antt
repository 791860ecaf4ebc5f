-- A verdict is good if and only if the bytes are a statement.
use Rattle.std.proofs.Common.{◌≡◌, ℕ, ℤ, pos, ◌+◌, ◌≤◌, List, [], ◌∷◌, ◌++◌, length, map, Some, refl, sym, ap, subst, ◌∙◌, arith, append-nil}
use Rattle.std.specs.List.{AllByRecursion}
use Rattle.std.proofs.lemmas.Option.{same_Some}
use Rattle.line_runs.specs.Ends.{lines_of}
use Rattle.statement_check.specs.Lines.{IsMills, IsInRange, line_text}
use Rattle.statement_check.specs.Places.{IsRight, AreRight, place_after}
use Rattle.statement_check.specs.Statements.{Follow, IsStatement}
use Rattle.statement_check.specs.Verdicts.{HasVerdict}
use Rattle.statement_check.specs.declared.{line.Movement.Movement, line.StatementLine.StatementLine, line.StatementLine.TheVariants.Opening, line.StatementLine.TheVariants.Moved, line.StatementLine.TheVariants.Closing, place.Place.TheVariants.First, place.Place.TheVariants.Behind, place.Place.TheVariants.Closed, verdict.Verdict.TheVariants.Good}

pos_same : (a b : ℕ) → pos a ≡ pos b → a ≡ b
pos_same a b is = cc

-- what right lines after this balance are, if the last is the closing line
record ClosesFrom (before closing : ℕ) (lines : List StatementLine) : Type 0 where
  movements : List Movement
  texts : map line_text lines ≡ map (λ m. line_text (Moved m)) movements ++ line_text (Closing closing) ∷ []
  count : length lines ≡ length movements + 1
  each : AllByRecursion (λ m. IsInRange (Moved m)) movements
  last : IsMills closing
  follow : Follow before movements closing

-- nothing is right after the closing line
no_more : (b : ℕ) (lines : List StatementLine) → AreRight (Closed b) lines → lines ≡ []
no_more b [] each = refl
no_more b (Opening c x ∷ lines) each = let told = each.0.told in cc
no_more b (Moved m ∷ lines) each = let told = each.0.told in cc
no_more b (Closing x ∷ lines) each = let told = each.0.told in cc

closes_now : (before closing x : ℕ) (lines : List StatementLine) → lines ≡ [] → IsRight (Behind before) (Closing x) → place_after (Closed x) lines ≡ Closed closing → ClosesFrom before closing (Closing x ∷ lines)
closes_now before closing x [] none right at =
    let told : pos before ≡ pos x = same_Some (pos before) (pos x) right.told in
    let same : x ≡ before = pos_same x before (sym told) in
    let last : x ≡ closing = cc in
    record {
      movements = [];
      texts = ap (λ (b : ℕ). line_text (Closing b) ∷ []) last;
      count = omega arith;
      each = tt;
      last = subst IsMills last right.ranges;
      follow = sym last ∙ same;
    }
closes_now before closing x (l ∷ lines) none right at = cc

closes_from : (before closing : ℕ) (lines : List StatementLine) → AreRight (Behind before) lines → place_after (Behind before) lines ≡ Closed closing → ClosesFrom before closing lines
closes_from before closing [] each at = cc
closes_from before closing (Opening c b ∷ lines) each at = let told = each.0.told in cc
closes_from before closing (Closing x ∷ lines) each at = closes_now before closing x lines (no_more x lines each.1) each.0 at
closes_from before closing (Moved m ∷ lines) each at =
    let rest = closes_from m.balance closing lines each.1 at in
    record {
      movements = m ∷ rest.movements;
      texts = ap (λ (ls : List (List ℕ)). line_text (Moved m) ∷ ls) rest.texts;
      count = omega (arith, rest.count);
      each = (each.0.ranges, rest.each);
      last = rest.last;
      follow = (same_Some _ _ each.0.told, rest.follow);
    }

-- right lines up to the closing line are a statement
statement_of : (closing : ℕ) (bytes : List ℕ) (lines : List StatementLine) → lines_of bytes ≡ map line_text lines ++ [] → AreRight First lines → length lines ≤ 10002 → place_after First lines ≡ Closed closing
    → IsStatement closing bytes
statement_of closing bytes [] are each few at = cc
statement_of closing bytes (Moved m ∷ lines) are each few at = let told = each.0.told in cc
statement_of closing bytes (Closing x ∷ lines) are each few at = let told = each.0.told in cc
statement_of closing bytes (Opening c b ∷ lines) are each few at =
    let rest = closes_from b closing lines each.1 at in
    record {
      customer = c;
      opening = b;
      movements = rest.movements;
      are = are ∙ append-nil (map line_text (Opening c b ∷ lines)) ∙ ap (λ (ls : List (List ℕ)). line_text (Opening c b) ∷ ls) rest.texts;
      few = omega (arith, few, rest.count);
      first = each.0.ranges;
      each = rest.each;
      last = rest.last;
      follow = rest.follow;
    }

pub is_statement : (closing : ℕ) (bytes : List ℕ) → HasVerdict (Good closing) bytes → IsStatement closing bytes
is_statement closing bytes v =
    statement_of closing bytes v.right (v.are ∙ ap (λ (r : List (List ℕ)). map line_text v.right ++ r) v.decides.2) v.each v.decides.0 v.decides.1

-- the lines after an opening of this balance
record LinesFrom (before closing : ℕ) (movements : List Movement) : Type 0 where
  lines : List StatementLine
  texts : map line_text lines ≡ map (λ m. line_text (Moved m)) movements ++ line_text (Closing closing) ∷ []
  count : length lines ≡ length movements + 1
  each : AreRight (Behind before) lines
  at : place_after (Behind before) lines ≡ Closed closing

lines_from : (before closing : ℕ) (movements : List Movement) → AllByRecursion (λ m. IsInRange (Moved m)) movements → IsMills closing → Follow before movements closing → LinesFrom before closing movements
lines_from before closing [] each last follow = record {
  lines = Closing closing ∷ [];
  texts = refl;
  count = omega arith;
  each = (record { ranges = last; told = ap (λ (b : ℕ). Some (pos b)) (sym follow) }, tt);
  at = refl;
}
lines_from before closing (m ∷ movements) each last follow =
    let rest = lines_from m.balance closing movements each.1 last follow.1 in
    record {
      lines = Moved m ∷ rest.lines;
      texts = ap (λ (ls : List (List ℕ)). line_text (Moved m) ∷ ls) rest.texts;
      count = omega (arith, rest.count);
      each = (record { ranges = each.0; told = ap (λ (x : ℤ). Some x) follow.0 }, rest.each);
      at = rest.at;
    }

pub is_good : (closing : ℕ) (bytes : List ℕ) → IsStatement closing bytes → HasVerdict (Good closing) bytes
is_good closing bytes s =
    let rest = lines_from s.opening closing s.movements s.each s.last s.follow in
    record {
      right = Opening s.customer s.opening ∷ rest.lines;
      rest = [];
      are = s.are ∙ ap (λ (ls : List (List ℕ)). line_text (Opening s.customer s.opening) ∷ ls) (sym rest.texts) ∙ sym (append-nil (map line_text (Opening s.customer s.opening ∷ rest.lines)));
      each = (record { ranges = s.first; told = refl }, rest.each);
      decides = (omega (arith, rest.count, s.few), rest.at, refl);
    }
