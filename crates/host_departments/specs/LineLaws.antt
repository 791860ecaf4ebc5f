-- A line about departments, or a `print`, is neither skipped nor the line of `end`.
use Rattle.std.proofs.Common.{◌≡◌, ◌≢◌, ℕ, List, ◌∷◌, get_or, arith, sym, subst, ◌∙◌, ap}
use Rattle.std.specs.Prelude.{codes}
use Rattle.bench_base.specs.declared.events.Event.{Event}
use Rattle.bench_base.specs.declared.events.Event.TheVariants as ev
use Rattle.script_words.specs.Words.{joined, words_in}
use Rattle.script_text.specs.Grammar.{IsSkipped}
use Rattle.script_text.proofs.EachEvent.{one_event_of, no_event_skipped}
use Rattle.line_extensions.specs.Events.{IsLineOf}
use Rattle.line_extensions.specs.Wants.{IsAlone}
use Rattle.host_departments.specs.DepartmentLines.{IsDepartmentLine}
use Rattle.host_departments.specs.declared.{row.DepartmentLine.DepartmentLine, row.DepartmentLine.TheVariants.Quota, row.DepartmentLine.TheVariants.Assign, row.DepartmentLine.TheVariants.Spent, row.DepartmentLine.TheVariants.Print}
use Rattle.script_words.proofs.Splits.{begins_with}

-- a line that is that of another event than `end`
event_alone : (e : Event) (line : List ℕ) → IsLineOf e line → e ≢ ev.End → IsAlone line
event_alone e line is other = record {
  not_skipped = λ skipped. no_event_skipped e line is.spells skipped;
  not_end = λ end. other (one_event_of e ev.End line is.whole tt is.spells end);
}

-- a line that begins with c
first_alone : (tail line : List ℕ) → line ≡ 100 ∷ tail → IsAlone line
first_alone tail line is = record {
  not_skipped = λ skipped. let at : 100 ≡ 35 = subst (λ (l : List ℕ). IsSkipped l) is skipped in omega (arith, at);
  not_end = λ end. let two : 100 ∷ tail ≡ codes "end" = sym is ∙ end.2
      ∙ ap (λ (ws : List (List ℕ)). joined ws) end.1 in let first : 100 ≡ 101 = ap (λ (l : List ℕ). get_or l 0 0) two in omega (arith, first);
}

-- a line with `dept` as its first word
dept_alone : (rest : List (List ℕ)) (line : List ℕ) → words_in line ≡ codes "dept" ∷ rest → IsAlone line
dept_alone rest line is = let at = begins_with 100 (codes "ept") rest line is in first_alone at.0 line at.1

pub department_alone : (own : DepartmentLine) (line : List ℕ) → IsDepartmentLine own line → IsAlone line
department_alone (Quota d q) line is = dept_alone _ line is.2
department_alone (Assign d j) line is = dept_alone _ line is.2
department_alone (Spent d) line is = dept_alone _ line is.1
department_alone (Print j) line is = event_alone (ev.Print j) line is (λ same. cc)
