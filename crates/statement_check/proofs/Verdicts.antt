-- The bytes of a statement have one verdict: the verdict that they were taken for.
use Rattle.std.proofs.Common.{◌≡◌, ◌≢◌, ℕ, ℤ, pos, ◌+◌, ◌<◌, ◌≤◌, List, [], ◌∷◌, ◌++◌, length, map, Some, None, false, refl, sym, ap, subst, ◌∙◌, arith, append_assoc, append-nil, inl, inr, length-append}
use Rattle.std.proofs.lemmas.Bool.Decides.{eqb_tells}
use Rattle.line_runs.specs.Ends.{lines_of}
use Rattle.line_runs.specs.Lines.{IsOneLine, ended}
use Rattle.line_runs.proofs.EndLaws.{lines_of_ended, line_first, lines_of_last}
use Rattle.statement_check.specs.Lines.{IsInRange, line_text}
use Rattle.statement_check.specs.Places.{balance, due, IsRight, AreRight, place_behind, place_after}
use Rattle.statement_check.specs.Runs.{script_of, TakesLast, TakesUnended, Takes}
use Rattle.statement_check.specs.Verdicts.{IsOpen, HasNoPlace, IsWrong, Decides, HasVerdict}
use Rattle.statement_check.specs.declared.{line.StatementLine.StatementLine, place.Place.Place, place.Place.TheVariants.First, place.Place.TheVariants.Closed, verdict.Verdict.Verdict, verdict.Verdict.TheVariants.Good, verdict.Verdict.TheVariants.Wrong, verdict.Verdict.TheVariants.Bad, verdict.Verdict.TheVariants.TooLong}
use Rattle.statement_check.proofs.Lines.{one_line, line_one, line_short, line_long}
use Rattle.statement_check.proofs.Turns.{right_push, after_push}

-- ---- one verdict

-- a right line is neither wrong nor without a place
not_wrong : (place : Place) (x : ℤ) (line : StatementLine) → IsRight place line → IsWrong place x (line_text line) → ⊥
not_wrong place x line right wrong =
    let same : line ≡ wrong.line = one_line line wrong.line right.ranges wrong.is.ranges wrong.is.text in
    let told : due place wrong.line ≡ Some (pos (balance wrong.line)) = subst (λ (l : StatementLine). due place l ≡ Some (pos (balance l))) same right.told in
    let both : Some x ≡ Some (pos (balance wrong.line)) = sym wrong.due_is ∙ told in
    let equal : x ≡ pos (balance wrong.line) = cc in wrong.other equal

not_placeless : (place : Place) (line : StatementLine) → IsRight place line → HasNoPlace place (line_text line) → ⊥
not_placeless place line right none =
    let at : due place line ≡ None = none line (record { ranges = right.ranges; text = refl }) in
    let both : Some (pos (balance line)) ≡ None = sym right.told ∙ at in cc

-- so a right line decides nothing, but that it is one too many
too_early : (v : Verdict) (count : ℕ) (place : Place) (line : StatementLine) (rest : List (List ℕ)) → IsRight place line → Decides v count place (line_text line ∷ rest) → count ≡ 10002
too_early (Good b) count place line rest right d = cc (d.2)
too_early (Wrong n x) count place line rest right d = absurd (not_wrong place x line right d.2)
too_early (Bad n) count place line rest right d = absurd (not_placeless place line right d.2)
too_early TooLong count place line rest right d = d

few : (v : Verdict) (count : ℕ) (place : Place) (rest : List (List ℕ)) → Decides v count place rest → count ≤ 10002
few (Good b) count place rest d = d.0
few (Wrong n x) count place [] d = absurd d
few (Wrong n x) count place (line ∷ rest) d = omega (arith, d.0)
few (Bad n) count place [] d = d.0
few (Bad n) count place (line ∷ rest) d = omega (arith, d.0)
few TooLong count place [] d = absurd d
few TooLong count place (line ∷ rest) d = omega (arith, d)

same_wrong : (place : Place) (x y : ℤ) (bytes : List ℕ) → IsWrong place x bytes → IsWrong place y bytes → x ≡ y
same_wrong place x y bytes a b =
    let same : a.line ≡ b.line = one_line a.line b.line a.is.ranges b.is.ranges (sym a.is.text ∙ b.is.text) in
    let both : Some x ≡ Some y = sym a.due_is ∙ ap (due place) same ∙ b.due_is in cc

wrong_has_place : (place : Place) (x : ℤ) (bytes : List ℕ) → IsWrong place x bytes → HasNoPlace place bytes → ⊥
wrong_has_place place x bytes w none = let both : Some x ≡ None = sym w.due_is ∙ none w.line w.is in cc

closed_not_open : (b : ℕ) (place : Place) → place ≡ Closed b → IsOpen place → ⊥
closed_not_open b place is open_still = subst IsOpen is open_still

same_decision : (v w : Verdict) (count : ℕ) (place : Place) (rest : List (List ℕ)) → Decides v count place rest → Decides w count place rest → v ≡ w
same_decision (Good b) (Good c) count place rest d e = let same : Closed b ≡ Closed c = sym d.1 ∙ e.1 in cc
same_decision (Good b) (Wrong n x) count place [] d e = absurd e
same_decision (Good b) (Wrong n x) count place (line ∷ rest) d e = cc (d.2)
same_decision (Good b) (Bad n) count place [] d e = absurd (closed_not_open b place d.1 e.2)
same_decision (Good b) (Bad n) count place (line ∷ rest) d e = cc (d.2)
same_decision (Good b) TooLong count place [] d e = absurd e
same_decision (Good b) TooLong count place (line ∷ rest) d e = cc (d.2)
same_decision (Wrong n x) w count place [] d e = absurd d
same_decision (Wrong n x) (Good b) count place (line ∷ rest) d e = cc (e.2)
same_decision (Wrong n x) (Wrong m y) count place (line ∷ rest) d e = let number : n ≡ m = d.1 ∙ sym e.1 in let same = same_wrong place x y line d.2 e.2 in cc
same_decision (Wrong n x) (Bad m) count place (line ∷ rest) d e = absurd (wrong_has_place place x line d.2 e.2)
same_decision (Wrong n x) TooLong count place (line ∷ rest) d e = absurd (omega (arith, d.0, e))
same_decision (Bad n) (Good b) count place [] d e = absurd (closed_not_open b place e.1 d.2)
same_decision (Bad n) (Good b) count place (line ∷ rest) d e = cc (e.2)
same_decision (Bad n) (Wrong m y) count place [] d e = absurd e
same_decision (Bad n) (Wrong m y) count place (line ∷ rest) d e = absurd (wrong_has_place place y line e.2 d.2)
same_decision (Bad n) (Bad m) count place [] d e = let number : n ≡ m = d.1 ∙ sym e.1 in cc
same_decision (Bad n) (Bad m) count place (line ∷ rest) d e = let number : n ≡ m = d.1 ∙ sym e.1 in cc
same_decision (Bad n) TooLong count place [] d e = absurd e
same_decision (Bad n) TooLong count place (line ∷ rest) d e = absurd (omega (arith, d.0, e))
same_decision TooLong w count place [] d e = absurd d
same_decision TooLong (Good b) count place (line ∷ rest) d e = cc (e.2)
same_decision TooLong (Wrong m y) count place (line ∷ rest) d e = absurd (omega (arith, e.0, d))
same_decision TooLong (Bad m) count place (line ∷ rest) d e = absurd (omega (arith, e.0, d))
same_decision TooLong TooLong count place (line ∷ rest) d e = refl

two : (v w : Verdict) (n i j : ℕ) (place : Place) (p q : List StatementLine) (r u : List (List ℕ)) → map line_text p ++ r ≡ map line_text q ++ u → AreRight place p → AreRight place q
    → i ≡ n + length p → j ≡ n + length q → Decides v i (place_after place p) r → Decides w j (place_after place q) u → v ≡ w
two v w n i j place [] [] r u e a b hi hj d f =
    let same : j ≡ i = omega (arith, hi, hj) in
    same_decision v w i place r d (subst (Decides w i place) (sym e) (subst (λ (k : ℕ). Decides w k place u) same f))
two v w n i j place [] (y ∷ q) r u e a b hi hj d f =
    let at : i ≡ 10002 = too_early v i place y _ b.0 (subst (Decides v i place) e d) in
    absurd (omega (arith, at, few w j _ u f, hi, hj))
two v w n i j place (x ∷ p) [] r u e a b hi hj d f =
    let at : j ≡ 10002 = too_early w j place x _ a.0 (subst (Decides w j place) (sym e) f) in
    absurd (omega (arith, at, few v i _ r d, hi, hj))
two v w n i j place (x ∷ p) (y ∷ q) r u e a b hi hj d f =
    let texts : line_text x ≡ line_text y = cc in
    let rest : map line_text p ++ r ≡ map line_text q ++ u = cc in
    let same : y ≡ x = one_line y x b.0.ranges a.0.ranges (sym texts) in
    two v w (n + 1) i j (place_behind x) p q r u rest a.1 (subst (λ (l : StatementLine). AreRight (place_behind l) q) same b.1) (omega (arith, hi)) (omega (arith, hj)) d
    (subst (λ (l : StatementLine). Decides w j (place_after (place_behind l) q) u) same f)

pub one_verdict : (v w : Verdict) (bytes : List ℕ) → HasVerdict v bytes → HasVerdict w bytes → v ≡ w
one_verdict v w bytes a b =
    two v w 0 _ _ First a.right b.right a.rest b.rest (sym a.are ∙ b.are) a.each b.each (omega arith) (omega arith) a.decides b.decides

-- ---- the lines of the bytes

lines_of_script : (place : Place) (lines : List StatementLine) (more : List ℕ) → AreRight place lines → lines_of (script_of lines ++ more) ≡ map line_text lines ++ lines_of more
lines_of_script place [] more each = refl
lines_of_script place (line ∷ lines) more each =
    ap lines_of (append_assoc (ended (line_text line)) (script_of lines) more) ∙ lines_of_ended (line_text line) (script_of lines ++ more) (line_one line each.0.ranges)
    ∙ ap (λ (ls : List (List ℕ)). line_text line ∷ ls) (lines_of_script (place_behind line) lines more each.1)

-- where the first line of the bytes ends
data FirstEnd (bytes : List ℕ) : Type 0 where
  none : IsOneLine bytes → FirstEnd bytes
  there : (line more : List ℕ) → IsOneLine line → bytes ≡ ended line ++ more → FirstEnd bytes

first_end : (bytes : List ℕ) → FirstEnd bytes
first_end [] = FirstEnd.none tt
first_end (c ∷ bytes) = elim (eqb_tells c 10) [
  | inl x ↦ FirstEnd.there [] bytes tt (ap (λ (b : ℕ). b ∷ bytes) x.1)
  | inr x ↦ behind c bytes x.1 (first_end bytes)
]
  where
    behind : (c : ℕ) (bytes : List ℕ) → c ≢ 10 → FirstEnd bytes → FirstEnd (c ∷ bytes)
    behind c bytes other (FirstEnd.none one) = FirstEnd.none (other, one)
    behind c bytes other (FirstEnd.there line more one is) = FirstEnd.there (c ∷ line) more (other, one) (ap (λ (bs : List ℕ). c ∷ bs) is)

one_append : (a b : List ℕ) → IsOneLine a → IsOneLine b → IsOneLine (a ++ b)
one_append [] b h k = k
one_append (x ∷ a) b h k = (h.0, one_append a b h.1 k)

end_behind : (a b c : List ℕ) → a ++ (ended b ++ c) ≡ ended (a ++ b) ++ c
end_behind a b c = simp append_assoc

-- a part of a line is the prefix of the first line
cut_first : (part left : List ℕ) → IsOneLine part → 0 < length part → (x : List ℕ) × (more : List (List ℕ)) × (lines_of (part ++ left) ≡ (part ++ x) ∷ more)
cut_first part left one some = at (first_end left)
  where
    at : FirstEnd left → (x : List ℕ) × (more : List (List ℕ)) × (lines_of (part ++ left) ≡ (part ++ x) ∷ more)
    at (FirstEnd.none alone) =
        let w = line_first false (part ++ left) (part ++ left) [] (one_append part left one alone) (refl, omega (arith, some, length-append part left), refl) in
        (left, w.0, ap lines_of (sym (append-nil (part ++ left))) ∙ w.1)
    at (FirstEnd.there line more alone is) =
        (line, lines_of more, ap (λ (l : List ℕ). lines_of (part ++ l)) is ∙ ap lines_of (end_behind part line more) ∙ lines_of_ended (part ++ line) more (one_append part line one alone))

-- ---- what was taken has the verdict

-- the bytes after the right lines decide
decided : (v : Verdict) (right : List StatementLine) (bytes : List ℕ) (rest : List (List ℕ)) → AreRight First right → lines_of bytes ≡ rest
    → Decides v (length right) (place_after First right) rest → HasVerdict v (script_of right ++ bytes)
decided v right bytes rest each are d = record {
  right = right;
  rest = rest;
  are = lines_of_script First right bytes each ∙ ap (λ (ls : List (List ℕ)). map line_text right ++ ls) are;
  each = each;
  decides = d;
}

long_has_no_place : (place : Place) (part x : List ℕ) → length part ≡ 601 → HasNoPlace place (part ++ x)
long_has_no_place place part x long line is = absurd (omega (arith, line_short line is.ranges, ap length is.text, length-append part x, long))

module _ (right : List StatementLine) (rest left : List ℕ) (each : AreRight First right) where
  last_told : (v : Verdict) → TakesLast v (length right) (place_after First right) rest (left ≡ []) → HasVerdict v (script_of right ++ (rest ++ left))
  last_told (Good b) t = decided (Good b) right (rest ++ left) [] each (ap (λ (r : List ℕ). lines_of (r ++ left)) t.2 ∙ ap lines_of t.3) (t.0, t.1, refl)
  last_told (Wrong n x) t =
      let at = t.2 in
      let w = line_first at.is_ended at.line rest left at.one at.is in
      decided (Wrong n x) right (rest ++ left) (at.line ∷ w.0) each w.1 (t.0, t.1, at.that)
  last_told (Bad n) (inl t) = decided (Bad n) right (rest ++ left) [] each (ap (λ (r : List ℕ). lines_of (r ++ left)) t.3 ∙ ap lines_of t.4) (t.0, t.1, t.2)
  last_told (Bad n) (inr t) = elim t.2 [
    | inl at ↦
        let w = line_first at.is_ended at.line rest left at.one at.is in
        decided (Bad n) right (rest ++ left) (at.line ∷ w.0) each w.1 (t.0, t.1, at.that)
    | inr cut ↦
        let w = cut_first rest left cut.0 (omega (arith, cut.1)) in
        decided (Bad n) right (rest ++ left) ((rest ++ w.0) ∷ w.1) each w.2 (t.0, t.1, long_has_no_place _ rest w.0 cut.1)
  ]
  last_told TooLong t = elim t.1 [
    | inl at ↦
        let w = line_first at.is_ended at.line rest left at.one at.is in
        decided TooLong right (rest ++ left) (at.line ∷ w.0) each w.1 t.0
    | inr cut ↦
        let w = cut_first rest left cut.0 (omega (arith, cut.1)) in
        decided TooLong right (rest ++ left) ((rest ++ w.0) ∷ w.1) each w.2 t.0
  ]

  alone : (line : StatementLine) → IsInRange line → rest ≡ line_text line → left ≡ [] → lines_of (rest ++ left) ≡ line_text line ∷ []
  alone line range text gone =
      ap (λ (l : List ℕ). lines_of (rest ++ l)) gone ∙ ap lines_of (append-nil rest ∙ text) ∙ lines_of_last (line_text line) (line_one line range) (line_long line range)

  unended_told : (v : Verdict) → TakesUnended v (length right) (place_after First right) rest (left ≡ []) → HasVerdict v (script_of right ++ (rest ++ left))
  unended_told v t = record {
    right = right ++ t.line ∷ [];
    rest = [];
    are = lines_of_script First right (rest ++ left) each ∙ ap (λ (ls : List (List ℕ)). map line_text right ++ ls) (alone t.line t.right.ranges t.text t.at_end) ∙ pushed right t.line;
    each = right_push First right t.line each t.right;
    decides = subst (λ (p : Place). Decides v (length (right ++ t.line ∷ [])) p []) (sym (after_push First right t.line))
        (subst (λ (n : ℕ). Decides v n (place_behind t.line) []) (sym (length-append right (t.line ∷ []))) t.last);
  }
    where
      pushed : (lines : List StatementLine) (line : StatementLine) → map line_text lines ++ line_text line ∷ [] ≡ map line_text (lines ++ line ∷ []) ++ []
      pushed [] line = refl
      pushed (l ∷ lines) line = ap (λ (ls : List (List ℕ)). line_text l ∷ ls) (pushed lines line)

pub taken_has : (v : Verdict) (bytes left : List ℕ) → Takes v bytes (left ≡ []) → HasVerdict v (bytes ++ left)
taken_has v bytes left t =
    let all : bytes ++ left ≡ script_of t.right ++ (t.rest ++ left) = ap (λ (b : List ℕ). b ++ left) t.are ∙ append_assoc (script_of t.right) t.rest left in
    subst (HasVerdict v) (sym all) (elim t.last [
      | inl last ↦ last_told t.right t.rest left t.each v last
      | inr last ↦ unended_told t.right t.rest left t.each v last
    ])
