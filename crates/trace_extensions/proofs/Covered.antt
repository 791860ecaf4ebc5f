-- The lines of two runs over one script: as far as a run goes, its lines are the first lines of the script, and where it ends is one.
use Rattle.std.proofs.Common.{◌≡◌, ◌⊎◌, inl, inr, false, ℕ, suc, ◌+◌, ◌<◌, ◌≤◌, List, [], ◌∷◌, ◌++◌, length, map, Option, Some, refl, sym, ◌∙◌, ap, subst, arith, append_assoc, append-nil}
use Rattle.std.specs.List.{AllByRecursion}
use Rattle.line_runs.specs.Ends.{lines_of, EndsAt, IsPassed}
use Rattle.line_runs.specs.Runs.{DidLast, RanOut, EndsIn, Replayed}
use Rattle.line_runs.specs.Trace.{Grammar, IsGrammar, Lines, script_of}
use Rattle.line_runs.specs.declared.status.Status.{Status}
use Rattle.line_runs.specs.declared.status.Status.TheVariants as status
use Rattle.line_runs.specs.declared.{status.SideStatus.SideStatus, status.SideStatus.TheVariants.Run}
use Rattle.line_runs.proofs.EndLaws.{lines_of_script, line_first, passed_not_last}
use Rattle.trace_extensions.proofs.Ran.{IsWhole}

-- two beginnings of one list with the same length are the same
pub same_front : (xs ys a b : List (List ℕ)) → xs ++ a ≡ ys ++ b → length xs ≡ length ys → xs ≡ ys
same_front [] [] a b is long = refl
same_front [] (y ∷ ys) a b is long = absurd (omega (arith, long))
same_front (x ∷ xs) [] a b is long = absurd (omega (arith, long))
same_front (x ∷ xs) (y ∷ ys) a b is long =
    let head : x ≡ y = cc is in
    ap (λ (z : List ℕ). z ∷ xs) head ∙ ap (λ (l : List (List ℕ)). y ∷ l) (same_front xs ys a b (cc is) (omega (arith, long)))

-- a longer one begins with a shorter one
pub longer_front : (xs ys a b : List (List ℕ)) → xs ++ a ≡ ys ++ b → length xs ≤ length ys → (more : List (List ℕ)) × (xs ++ more ≡ ys)
longer_front [] ys a b is long = (ys, refl)
longer_front (x ∷ xs) [] a b is long = absurd (omega (arith, long))
longer_front (x ∷ xs) (y ∷ ys) a b is long =
    let head : x ≡ y = cc is in
    let w = longer_front xs ys a b (cc is) (omega (arith, long)) in
    (w.0, ap (λ (z : List ℕ). z ∷ (xs ++ w.0)) head ∙ ap (λ (l : List (List ℕ)). y ∷ l) w.1)

-- the lines before the end of a script are one
pub one_end : (g : Grammar) → IsGrammar g → (p q a b : List (List ℕ)) (n k : ℕ) → p ++ a ≡ q ++ b → AllByRecursion (IsPassed g) p → AllByRecursion (IsPassed g) q → EndsAt g status.Done n a → EndsAt g status.Done k b → length p ≡ length q
one_end g is [] [] a b n k same each each' end end' = refl
one_end g is [] (y ∷ q) [] b n k same each each' end end' = absurd end
one_end g is [] (y ∷ q) (x ∷ a) b n k same each each' end end' =
    let head : x ≡ y = cc same in absurd (passed_not_last g is y each'.0 (subst (λ (l : List ℕ). g.IsEndLine l) head end.1))
one_end g is (x ∷ p) [] a [] n k same each each' end end' = absurd end'
one_end g is (x ∷ p) [] a (y ∷ b) n k same each each' end end' =
    let head : y ≡ x = cc same in absurd (passed_not_last g is x each.0 (subst (λ (l : List ℕ). g.IsEndLine l) head end'.1))
one_end g is (x ∷ p) (y ∷ q) a b n k same each each' end end' = ap suc (one_end g is p q a b n k (cc same) each.1 each'.1 end end')

-- the line after passed lines, which is not bad, is before the end of the script, or the last one
pub reaches : (g : Grammar) → IsGrammar g → (s : Status) (a : List (List ℕ)) (line : List ℕ) (more p r : List (List ℕ)) (i : ℕ) → a ++ (line ∷ more) ≡ p ++ r → AllByRecursion (IsPassed g) a → length line ≤ 600 → (g.IsBad line → ⊥)
    → i + length a + 1 ≤ 1000000 → EndsAt g s (i + length p + 1) r → (length a < length p) ⊎ ((s ≡ status.Done) × (length a ≡ length p))
reaches g is status.Done [] line more [] r i same each short fine few end = inr (refl, refl)
reaches g is (status.Script n) [] line more [] [] i same each short fine few end = absurd (cc (same))
reaches g is (status.Script n) [] line more [] (x ∷ r) i same each short fine few end =
    let head : x ≡ line = cc same in
    elim end.2 [
      | inl long ↦ let long' : 600 < length line = subst (λ (l : List ℕ). 600 < length l) head long in absurd (omega (arith, long', short))
      | inr bad ↦ absurd (fine (subst (λ (l : List ℕ). g.IsBad l) head bad))
    ]
reaches g is status.TooLong [] line more [] r i same each short fine few end = absurd (omega (arith, few, end))
reaches g is status.Words [] line more [] r i same each short fine few end = absurd end
reaches g is status.ReadFault [] line more [] r i same each short fine few end = absurd end
reaches g is status.WriteFault [] line more [] r i same each short fine few end = absurd end
reaches g is status.Memory [] line more [] r i same each short fine few end = absurd end
reaches g is s [] line more (y ∷ p) r i same each short fine few end = inl (omega arith)
reaches g is status.Done (x ∷ a) line more [] [] i same each short fine few end = absurd end
reaches g is status.Done (x ∷ a) line more [] (y ∷ r) i same each short fine few end =
    let head : y ≡ x = cc same in absurd (passed_not_last g is x each.0 (subst (λ (l : List ℕ). g.IsEndLine l) head end.1))
reaches g is (status.Script n) (x ∷ a) line more [] [] i same each short fine few end = absurd (cc (same))
reaches g is (status.Script n) (x ∷ a) line more [] (y ∷ r) i same each short fine few end =
    let head : y ≡ x = cc same in
    elim end.2 [
      | inl long ↦ let long' : 600 < length x = subst (λ (l : List ℕ). 600 < length l) head long in absurd (omega (arith, long', each.0.0))
      | inr bad ↦ absurd (is.passing_not_bad x each.0.1 (subst (λ (l : List ℕ). g.IsBad l) head bad))
    ]
reaches g is status.TooLong (x ∷ a) line more [] r i same each short fine few end = absurd (omega (arith, few, end))
reaches g is status.Words (x ∷ a) line more [] r i same each short fine few end = absurd end
reaches g is status.ReadFault (x ∷ a) line more [] r i same each short fine few end = absurd end
reaches g is status.WriteFault (x ∷ a) line more [] r i same each short fine few end = absurd end
reaches g is status.Memory (x ∷ a) line more [] r i same each short fine few end = absurd end
reaches g is s (x ∷ a) line more (y ∷ p) r i same each short fine few end =
    elim (reaches g is s a line more p r (i + 1) (cc same) each.1 short fine (omega (arith, few)) (subst (λ (n : ℕ). EndsAt g s n r) (omega arith) end)) [
      | inl fewer ↦ inl (omega (arith, fewer))
      | inr done ↦ inr (done.0, ap suc done.1)
    ]

module _ {D : Type 0} (l : Lines D) where
  -- the lines of the steps are the first of the script
  pub record Covers (script : List ℕ) (lines : List (List ℕ)) : Type 0 where
    pub more : List (List ℕ)
    pub are : lines_of script ≡ lines ++ more

  one_more : (script : List ℕ) (a b more : List (List ℕ)) (line : List ℕ) → lines_of script ≡ a ++ (line ∷ more) → b ≡ a ++ line ∷ [] → Covers script b
  one_more script a b more line are is = record { more = more; are = are ∙ sym (append_assoc a (line ∷ []) more) ∙ ap (λ (x : List (List ℕ)). x ++ more) (sym is) }

  map_both : (xs ys : List D) → map l.line_in (xs ++ ys) ≡ map l.line_in xs ++ map l.line_in ys
  map_both [] ys = refl
  map_both (x ∷ xs) ys = ap (λ (z : List (List ℕ)). l.line_in x ∷ z) (map_both xs ys)

  with_last : (trace done : List D) (last : D) → done ≡ last ∷ [] → map l.line_in (trace ++ done) ≡ map l.line_in trace ++ l.line_in last ∷ []
  with_last trace done last is = map_both trace done ∙ ap (λ (z : List D). map l.line_in trace ++ map l.line_in z) is

  with_none : (trace done : List D) → done ≡ [] → map l.line_in (trace ++ done) ≡ map l.line_in trace
  with_none trace done is = map_both trace done ∙ ap (λ (z : List D). map l.line_in trace ++ map l.line_in z) is ∙ append-nil (map l.line_in trace)

  module _ (P : List D → Type 0) (script : List ℕ) (t0 t1 : Option (List ℕ)) where
    -- what is left of the script after the steps that go on
    behind : (outcome : SideStatus) (left : List ℕ) (r : Replayed l outcome P (Some script) (Some left) t0 t1) → lines_of script ≡ map l.line_in r.trace ++ lines_of (r.rest ++ left)
    behind outcome left r = ap (λ (x : List ℕ). lines_of x) (r.consumed ∙ append_assoc (script_of l r.trace) r.rest left) ∙ lines_of_script l r.trace (r.rest ++ left) r.each

    -- the line of the last step follows
    pub last_follows : (outcome : SideStatus) (left : List ℕ) (r : Replayed l outcome P (Some script) (Some left) t0 t1) (did : DidLast l r.rest (left ≡ []) r.done)
        → (more : List (List ℕ)) × (lines_of script ≡ map l.line_in r.trace ++ (l.line_in did.last ∷ more))
    last_follows outcome left r did =
        let w = line_first did.is_ended (l.line_in did.last) r.rest left did.reads.one did.line in
        (w.0, behind outcome left r ∙ ap (λ (x : List (List ℕ)). map l.line_in r.trace ++ x) w.1)

    ran_follows : (outcome : SideStatus) (left : List ℕ) (r : Replayed l outcome P (Some script) (Some left) t0 t1) (out : RanOut l r.rest (left ≡ []) r.text r.done)
        → (more : List (List ℕ)) × (lines_of script ≡ map l.line_in r.trace ++ (l.line_in out.last ∷ more))
    ran_follows outcome left r out =
        let w = line_first false (l.line_in out.last) r.rest left out.reads.one out.line in
        (w.0, behind outcome left r ∙ ap (λ (x : List (List ℕ)). map l.line_in r.trace ++ x) w.1)

    -- all lines of a run that came to the end of its script
    pub covers : (s : Status) → IsWhole s → (left : List ℕ) (r : Replayed l (Run s) P (Some script) (Some left) t0 t1) → Covers script (map l.line_in (r.trace ++ r.done))
    covers s whole left r = by s whole r r.ends
      where
        by : (s : Status) → IsWhole s → (r : Replayed l (Run s) P (Some script) (Some left) t0 t1) → EndsIn l (Run s) (length r.trace + 1) r.rest (left ≡ []) r.text r.done → Covers script (map l.line_in (r.trace ++ r.done))
        by status.Done whole r ends =
            let w = last_follows (Run status.Done) left r ends.0 in one_more script (map l.line_in r.trace) _ w.0 (l.line_in ends.0.last) w.1 (with_last r.trace r.done ends.0.last ends.0.only)
        by (status.Script n) whole r (few, inl (is, none, told, bad)) = record { more = lines_of (r.rest ++ left); are = behind (Run (status.Script n)) left r ∙ ap (λ (x : List (List ℕ)). x ++ lines_of (r.rest ++ left)) (sym (with_none r.trace r.done none)) }
        by (status.Script n) whole r (few, inr (is, out)) =
            let w = ran_follows (Run (status.Script n)) left r out in one_more script (map l.line_in r.trace) _ w.0 (l.line_in out.last) w.1 (with_last r.trace r.done out.last out.only)
        by status.TooLong whole r (inl (is, none, no_done, told)) = record { more = lines_of (r.rest ++ left); are = behind (Run status.TooLong) left r ∙ ap (λ (x : List (List ℕ)). x ++ lines_of (r.rest ++ left)) (sym (with_none r.trace r.done no_done)) }
        by status.TooLong whole r (inr (is, out)) =
            let w = ran_follows (Run status.TooLong) left r out in one_more script (map l.line_in r.trace) _ w.0 (l.line_in out.last) w.1 (with_last r.trace r.done out.last out.only)
        by status.Words whole r ends = absurd whole
        by status.ReadFault whole r ends = absurd whole
        by status.WriteFault whole r ends = absurd whole
        by status.Memory whole r ends = absurd whole
