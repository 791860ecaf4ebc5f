-- The lines about departments.
use Rattle.std.specs.Prelude.{◌≡◌, ℕ, List, [], ◌∷◌, codes, decimal}
use Rattle.bench_base.specs.Ranges.{IsWord}
use Rattle.bench_base.specs.declared.events.Event.TheVariants as ev
use Rattle.script_words.specs.Words.{words_in}
use Rattle.line_extensions.specs.Events.{IsLineOf}
use Rattle.host_departments.specs.Rows.{IsDepartment}
use Rattle.host_departments.specs.declared.{row.DepartmentLine.DepartmentLine, row.DepartmentLine.TheVariants.Quota, row.DepartmentLine.TheVariants.Assign, row.DepartmentLine.TheVariants.Spent, row.DepartmentLine.TheVariants.Print}

-- the line is one that may be written
abbrev pub IsLine : DepartmentLine → Type 0
IsLine (Quota d q) = IsDepartment d × IsWord q
IsLine (Assign d j) = IsDepartment d × IsWord j
IsLine (Spent d) = IsDepartment d
IsLine (Print j) = IsWord j

-- the words after `dept`; a `print` has none
abbrev pub IsBehind : DepartmentLine → List (List ℕ) → Type 0
IsBehind (Quota d q) ws = IsDepartment d × IsWord q × (ws ≡ codes "quota" ∷ decimal d ∷ decimal q ∷ [])
IsBehind (Assign d j) ws = IsDepartment d × IsWord j × (ws ≡ codes "assign" ∷ decimal d ∷ decimal j ∷ [])
IsBehind (Spent d) ws = IsDepartment d × (ws ≡ codes "spent" ∷ decimal d ∷ [])
IsBehind (Print j) ws = ⊥

abbrev pub IsDepartmentLine : DepartmentLine → List ℕ → Type 0
IsDepartmentLine (Quota d q) line = IsDepartment d × IsWord q × (words_in line ≡ codes "dept" ∷ codes "quota" ∷ decimal d ∷ decimal q ∷ [])
IsDepartmentLine (Assign d j) line = IsDepartment d × IsWord j × (words_in line ≡ codes "dept" ∷ codes "assign" ∷ decimal d ∷ decimal j ∷ [])
IsDepartmentLine (Spent d) line = IsDepartment d × (words_in line ≡ codes "dept" ∷ codes "spent" ∷ decimal d ∷ [])
IsDepartmentLine (Print j) line = IsLineOf (ev.Print j) line
