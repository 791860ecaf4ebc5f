-- What a map of marks is once one of them is written.
use Rattle.std.proofs.Common.{◌≡◌, ◌≢◌, inr, ℕ, Bool, true, false, cond, List, [], ◌∷◌, map, true≢false, bytes_eq, Option, Some, None, is_some, refl, sym, ◌∙◌, ap, subst}
use Rattle.std.specs.Ordering.{is_eq, nat_cmp}
use Rattle.std.specs.Cmp.Lexicographic.{slice_cmp}
use Rattle.std.specs.BTreeMap as tree
use Rattle.std.specs.Map.{lookup, set_value}
use Rattle.std.proofs.lemmas.Option.{same_Some}
use Rattle.std.proofs.lemmas.Slice.Eq.{bytes_eq-Decides}
use Rattle.std.proofs.lemmas.Map.Text.{is_eq-slice_cmp}
use Rattle.trace_seen.specs.declared.{marks.Seen.Seen, marks.SeenMarks.SeenMarks}
use Rattle.trace_seen.specs.Marks.{seen_as, line_of, added, Adds, Ticks, TicksAt}
use Rattle.trace_seen.proofs.Telling.{same_at}

-- the order distinguishes two different marks
tells_apart : (mark q : List ℕ) → mark ≢ q → is_eq (slice_cmp nat_cmp mark q) ≡ false
tells_apart mark q differs = is_eq-slice_cmp mark q ∙ by (bytes_eq mark q) refl
  where
    by : (b : Bool) → bytes_eq mark q ≡ b → b ≡ false
    by true same = absurd (differs ((bytes_eq-Decides mark q).0 same))
    by false other = refl

-- == a mark that was not there ==

pub adds_new : (mark : List ℕ) (line : ℕ) (old new : SeenMarks) → seen_as old mark ≡ None → tree.Updates (slice_cmp nat_cmp) old.marks new.marks mark (Some (record { line = line; is_debited = false })) → Adds mark line old new
adds_new mark line old new none updates = record {
  here = updates.1 ∙ ap (λ (o : Option Seen). Some (added line o)) (sym none);
  others = λ q differs. updates.2 q (tells_apart mark q differs);
}

-- == a mark that is recorded as debited ==

-- the lines stay, where the value of one mark is written with the line that it has
one_line : (w x : Seen) → w.line ≡ x.line → (e : List ℕ × Seen) (es os : List (List ℕ × Seen)) (rest : Option Seen) → (b : Bool) → cond b (Some e.1) rest ≡ Some x
    → (rest ≡ Some x → map line_of os ≡ map line_of es) → map line_of (cond b ((e.0, w) ∷ es) (e ∷ os)) ≡ map line_of (e ∷ es)
one_line w x same e es os rest true at stay = ap (λ (n : ℕ). (e.0, n) ∷ map line_of es) (same ∙ ap (λ (z : Seen). z.line) (sym (same_Some _ _ at)))
one_line w x same e es os rest false at stay = ap (λ (ls : List (List ℕ × ℕ)). line_of e ∷ ls) (stay at)

lines_stay : (test : List ℕ → Bool) (es : List (List ℕ × Seen)) (w x : Seen) → w.line ≡ x.line → lookup test es ≡ Some x → map line_of (set_value test es w) ≡ map line_of es
lines_stay test [] w x same at = refl
lines_stay test (e ∷ es) w x same at = one_line w x same e es (set_value test es w) (lookup test es) (test e.0) at (λ rest. lines_stay test es w x same rest)

pub ticks_written : (mark : List ℕ) (old new : SeenMarks) (x : Seen) → seen_as old mark ≡ Some x
    → tree.WritesThrough (slice_cmp nat_cmp) (slice_cmp nat_cmp mark) old.marks (record { line = x.line; is_debited = true }) new.marks → Ticks (λ q. mark ≡ q) old new
ticks_written mark old new x at written = record {
  asked_same = ap (map line_of) written.0 ∙ lines_stay (λ q. is_eq (slice_cmp nat_cmp mark q)) old.marks.entries now x refl at;
  each = λ q. by q (bytes_eq mark q) refl;
}
  where
    now : Seen
    now = record { line = x.line; is_debited = true }

    updates : tree.Updates (slice_cmp nat_cmp) old.marks new.marks mark (Some now)
    updates = written.3 (ap (λ (o : Option Seen). is_some o) at)

    here : TicksAt (mark ≡ mark) (seen_as old mark) (seen_as new mark)
    here = subst (λ (o : Option Seen). TicksAt (mark ≡ mark) o (seen_as new mark)) (sym at) (now, updates.1, refl, (λ yes. inr refl, λ either. refl))

    by : (q : List ℕ) (b : Bool) → bytes_eq mark q ≡ b → TicksAt (mark ≡ q) (seen_as old q) (seen_as new q)
    by q true same = subst (λ (l : List ℕ). TicksAt (mark ≡ l) (seen_as old l) (seen_as new l)) ((bytes_eq-Decides mark q).0 same) here
    by q false other =
        let differs : mark ≢ q = λ same. true≢false (sym ((bytes_eq-Decides mark q).1 same) ∙ other) in
        subst (λ (o : Option Seen). TicksAt (mark ≡ q) (seen_as old q) o) (sym (updates.2 q (tells_apart mark q differs))) (same_at (mark ≡ q) (seen_as old q) differs)
