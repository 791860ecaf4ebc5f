-- A statement is read, one line after another.
use Rattle.std.proofs.Common.{◌≡◌, ℕ, ◌+◌, ◌≤◌, List, [], ◌∷◌, ◌++◌, length, Option, refl, sym, ap, subst, ◌∙◌, arith, append_assoc, append-nil, ◌⊎◌, length-append}
use Rattle.std.proofs.KnownBytes.{Consumes-trans}
use Rattle.std.specs.Io.KnownBytes.{Consumes, IsAtEnd}
use Rattle.line_runs.specs.Lines.{ended}
use Rattle.statement_check.specs.Lines.{line_text}
use Rattle.statement_check.specs.Places.{IsRight, AreRight, place_behind, place_after}
use Rattle.statement_check.specs.Runs.{script_of, TakesLast, TakesUnended}
use Rattle.statement_check.specs.Turns.{Progress, GoesOn, EndsSo, TakesPart, IsJudged, IsUnread}
use Rattle.statement_check.specs.declared.{line.StatementLine.StatementLine, place.Place.Place, place.Place.TheVariants.First, verdict.Verdict.Verdict}

-- ---- one line more at the end

pub right_push : (place : Place) (lines : List StatementLine) (line : StatementLine) → AreRight place lines → IsRight (place_after place lines) line → AreRight place (lines ++ line ∷ [])
right_push place [] line each right = (right, tt)
right_push place (l ∷ lines) line each right = (each.0, right_push (place_behind l) lines line each.1 right)

pub after_push : (place : Place) (lines : List StatementLine) (line : StatementLine) → place_after place (lines ++ line ∷ []) ≡ place_behind line
after_push place [] line = refl
after_push place (l ∷ lines) line = after_push (place_behind l) lines line

script_push : (lines : List StatementLine) (line : StatementLine) → script_of (lines ++ line ∷ []) ≡ script_of lines ++ ended (line_text line)
script_push [] line = append-nil (ended (line_text line))
script_push (l ∷ lines) line = ap (λ (t : List ℕ). ended (line_text l) ++ t) (script_push lines line) ∙ sym (append_assoc (ended (line_text l)) (script_of lines) (ended (line_text line)))

-- ---- one line after another

pub progress_more : (count : ℕ) (place next : Place) (a b c : Option (List ℕ)) → Progress count place a b → GoesOn place next b c → Progress (count + 1) next a c
progress_more count place next a b c p n = record {
  right = p.right ++ n.line ∷ [];
  each = right_push First p.right n.line p.each (subst (λ (x : Place). IsRight x n.line) p.place_is n.right);
  number = omega (arith, p.number, length-append p.right (n.line ∷ []));
  place_is = n.behind ∙ sym (after_push First p.right n.line);
  consumed = subst (Consumes a c) (sym (script_push p.right n.line)) (Consumes-trans a b c _ _ p.consumed n.consumed);
}

-- what is said at the place and number of these lines
moved_to : (P : ℕ → Place → Type 0) (count : ℕ) (place : Place) (lines : List StatementLine) → length lines ≡ count → place ≡ place_after First lines → P count place
    → P (length lines) (place_after First lines)
moved_to P count place lines number at h = subst (λ (n : ℕ). P n (place_after First lines)) (sym number) (subst (λ (x : Place). P count x) at h)

pub judged : (verdict : Verdict) (count : ℕ) (place : Place) (a b c : Option (List ℕ)) → Progress count place a b → EndsSo verdict count place b c → IsJudged verdict a c
judged verdict count place a b c p e = record {
  bytes = script_of p.right ++ e.bytes;
  consumed = Consumes-trans a b c _ _ p.consumed e.consumed;
  takes = record {
    right = p.right;
    each = p.each;
    rest = e.bytes;
    are = refl;
    last = moved_to (λ n x. TakesLast verdict n x e.bytes (IsAtEnd c) ⊎ TakesUnended verdict n x e.bytes (IsAtEnd c)) count place p.right p.number p.place_is e.last;
  };
}

pub unread : (count : ℕ) (place : Place) (a b c : Option (List ℕ)) → count ≤ 10002 → Progress count place a b → TakesPart b c → IsUnread a c
unread count place a b c few p t = record {
  bytes = script_of p.right ++ t.bytes;
  consumed = Consumes-trans a b c _ _ p.consumed t.consumed;
  takes = record { right = p.right; each = p.each; few = omega (arith, p.number, few); rest = t.bytes; are = refl; one = t.one; short = t.short };
}
