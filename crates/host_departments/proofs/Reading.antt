-- The lines about departments, and the words that they are read from.
use Rattle.std.proofs.Common.{◌≡◌, ℕ, List, [], ◌∷◌, get_or, Option, Some, None, sym, subst, ◌∙◌, ap, arith}
use Rattle.std.specs.Prelude.{codes, decimal, IfNone}
use Rattle.bench_base.specs.Ranges.{IsWord}
use Rattle.bench_base.specs.declared.events.Event.TheVariants as ev
use Rattle.script_words.specs.Words.{words_in}
use Rattle.script_text.proofs.EachEvent.{words_spelled, one_event_of}
use Rattle.line_extensions.specs.Events.{IsLineOf}
use Rattle.host_departments.specs.DepartmentLines.{IsBehind, IsDepartmentLine}
use Rattle.line_extensions.specs.Wants.{IsEvent}
use Rattle.host_departments.specs.Passes.{Passes, IsPrintOf}
use Rattle.host_departments.specs.Rows.{Rows, IsDepartment}
use Rattle.host_departments.specs.declared.{row.DepartmentLine.DepartmentLine, row.DepartmentLine.TheVariants.Quota, row.DepartmentLine.TheVariants.Assign, row.DepartmentLine.TheVariants.Spent, row.DepartmentLine.TheVariants.Print}

-- a department's number is short
pub few : (d : ℕ) → IsDepartment d → IsWord d
few d is = omega (arith, is.1)

-- == first words ==

print_words : (j : ℕ) (line : List ℕ) → IsLineOf (ev.Print j) line → words_in line ≡ codes "print" ∷ decimal j ∷ []
print_words j line is = words_spelled (ev.Print j) line is.whole is.spells

dept_differs : codes "dept" ≡ codes "print" → ⊥
dept_differs is = let at : 100 ≡ 112 = ap (λ (l : List ℕ). get_or l 0 0) is in omega (arith, at)

two_words : (line a b : List ℕ) (v w : List (List ℕ)) → words_in line ≡ a ∷ v → words_in line ≡ b ∷ w → a ≡ b
two_words line a b v w is is' = let two : a ∷ v ≡ b ∷ w = sym is ∙ is' in cc

tails : (line a b : List ℕ) (v w : List (List ℕ)) → words_in line ≡ a ∷ v → words_in line ≡ b ∷ w → v ≡ w
tails line a b v w is is' = let two : a ∷ v ≡ b ∷ w = sym is ∙ is' in cc

pub none_of : {A : Type 0} {P Q : Type 0} (o : Option A) → (P → Q) → IfNone o P → IfNone o Q
none_of None f h = f h
none_of (Some x) f h = h

-- a line of one word is no line about departments
pub none_alone : (line : List ℕ) → words_in line ≡ line ∷ [] → (own : DepartmentLine) → IsDepartmentLine own line → ⊥
none_alone line is (Quota d q) here = let wrong : [] ≡ codes "quota" ∷ decimal d ∷ decimal q ∷ [] = tails line line (codes "dept") _ _ is here.2 in cc
none_alone line is (Assign d j) here = let wrong : [] ≡ codes "assign" ∷ decimal d ∷ decimal j ∷ [] = tails line line (codes "dept") _ _ is here.2 in cc
none_alone line is (Spent d) here = let wrong : [] ≡ codes "spent" ∷ decimal d ∷ [] = tails line line (codes "dept") _ _ is here.1 in cc
none_alone line is (Print j) here = let wrong : [] ≡ decimal j ∷ [] = tails line line (codes "print") _ _ is (print_words j line here) in cc

module _ (line word rest : List ℕ) (split : words_in line ≡ word ∷ words_in rest) where
  -- after `dept`
  pub dept_none : word ≡ codes "dept" → ((own : DepartmentLine) → IsBehind own (words_in rest) → ⊥) → (own : DepartmentLine) → IsDepartmentLine own line → ⊥
  dept_none is none (Quota d q) here = none (Quota d q) (here.0, here.1, tails line word (codes "dept") _ _ split here.2)
  dept_none is none (Assign d j) here = none (Assign d j) (here.0, here.1, tails line word (codes "dept") _ _ split here.2)
  dept_none is none (Spent d) here = none (Spent d) (here.0, tails line word (codes "dept") _ _ split here.1)
  dept_none is none (Print j) here = dept_differs (sym is ∙ two_words line word (codes "print") _ _ split (print_words j line here))

  -- after `print`
  pub print_none : word ≡ codes "print" → ((j : ℕ) → IsLineOf (ev.Print j) line → ⊥) → (own : DepartmentLine) → IsDepartmentLine own line → ⊥
  print_none is none (Quota d q) here = dept_differs (two_words line (codes "dept") word _ _ here.2 split ∙ is)
  print_none is none (Assign d j) here = dept_differs (two_words line (codes "dept") word _ _ here.2 split ∙ is)
  print_none is none (Spent d) here = dept_differs (two_words line (codes "dept") word _ _ here.1 split ∙ is)
  print_none is none (Print j) here = none j here

  -- after another word
  pub others_none : (word ≡ codes "dept" → ⊥) → (word ≡ codes "print" → ⊥) → (own : DepartmentLine) → IsDepartmentLine own line → ⊥
  others_none no_dept no_print (Quota d q) here = no_dept (two_words line word (codes "dept") _ _ split here.2)
  others_none no_dept no_print (Assign d j) here = no_dept (two_words line word (codes "dept") _ _ split here.2)
  others_none no_dept no_print (Spent d) here = no_dept (two_words line word (codes "dept") _ _ split here.1)
  others_none no_dept no_print (Print j) here = no_print (two_words line word (codes "print") _ _ split (print_words j line here))

-- a line of `print` is that of one job, and of no other line
pub only_print : (j : ℕ) (line : List ℕ) → IsLineOf (ev.Print j) line → (own : DepartmentLine) → IsDepartmentLine own line → own ≡ Print j
only_print j line is (Quota d q) here = absurd (dept_differs (two_words line (codes "dept") (codes "print") _ _ here.2 (print_words j line is)))
only_print j line is (Assign d i) here = absurd (dept_differs (two_words line (codes "dept") (codes "print") _ _ here.2 (print_words j line is)))
only_print j line is (Spent d) here = absurd (dept_differs (two_words line (codes "dept") (codes "print") _ _ here.1 (print_words j line is)))
only_print j line is (Print i) here =
    let same : ev.Print i ≡ ev.Print j = one_event_of (ev.Print i) (ev.Print j) line here.whole is.whole here.spells is.spells in
    let job : i ≡ j = cc in
    ap (λ (n : ℕ). Print n) job

-- a `print` of an assigned job is left to the bench, as the event that it is
pub passes_print : (rows : Rows) (own : DepartmentLine) (line : List ℕ) → IsDepartmentLine own line → IsPrintOf rows own
    → Passes rows line × ((x : DepartmentLine) → IsDepartmentLine x line → IsEvent line)
passes_print rows (Quota d q) line here left = absurd left
passes_print rows (Assign d j) line here left = absurd left
passes_print rows (Spent d) line here left = absurd left
passes_print rows (Print j) line here left =
    (λ own is. subst (λ (x : DepartmentLine). IsPrintOf rows x) (sym (only_print j line here own is)) left, λ own is. (ev.Print j, here))
