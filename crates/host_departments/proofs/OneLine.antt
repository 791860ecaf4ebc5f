-- A line about departments, or a `print`, is one own line.
use Rattle.std.proofs.Common.{◌≡◌, ℕ, List, cond, codes, sym, ap, ◌∙◌, arith}
use Rattle.bench_base.specs.declared.events.Event.TheVariants as ev
use Rattle.script_words.specs.Words.{words_in}
use Rattle.script_text.proofs.EachEvent.{words_spelled}
use Rattle.script_text.proofs.ReadBack.{same, at, number_in, word_again, small_again}
use Rattle.host_departments.specs.DepartmentLines.{IsDepartmentLine}
use Rattle.host_departments.specs.declared.{row.DepartmentLine.DepartmentLine, row.DepartmentLine.TheVariants.Quota, row.DepartmentLine.TheVariants.Assign, row.DepartmentLine.TheVariants.Spent, row.DepartmentLine.TheVariants.Print}

-- the own line of these words
abbrev line_in : List (List ℕ) → DepartmentLine
line_in ws =
    cond (same (at ws 0) (codes "print")) (Print (number_in (at ws 1)))
    (cond (same (at ws 1) (codes "quota")) (Quota (number_in (at ws 2)) (number_in (at ws 3)))
    (cond (same (at ws 1) (codes "assign")) (Assign (number_in (at ws 2)) (number_in (at ws 3)))
    (Spent (number_in (at ws 2)))))

line_again : (own : DepartmentLine) (line : List ℕ) → IsDepartmentLine own line → line_in (words_in line) ≡ own
line_again (Quota d q) line is = let a = small_again d 16 (omega arith) is.0 in let b = word_again q is.1 in ap line_in is.2 ∙ cc
line_again (Assign d j) line is = let a = small_again d 16 (omega arith) is.0 in let b = word_again j is.1 in ap line_in is.2 ∙ cc
line_again (Spent d) line is = ap line_in is.1 ∙ ap (λ (n : ℕ). Spent n) (small_again d 16 (omega arith) is.0)
line_again (Print j) line is = ap line_in (words_spelled (ev.Print j) line is.whole is.spells) ∙ ap (λ (n : ℕ). Print n) (word_again j is.whole)

pub one_line_of : (own other : DepartmentLine) (line : List ℕ) → IsDepartmentLine own line → IsDepartmentLine other line → own ≡ other
one_line_of own other line is is' = sym (line_again own line is) ∙ line_again other line is'
