-- What the fields of a mark hold of its registers, whatever they are.
use Rattle.std.specs.Prelude.{ℕ, ◌%◌, ◌^◌, ◌==◌, if◌then◌else◌}
use Rattle.indicium.specs.declared.Mark.{Mark}

-- the last four bytes of a sum in version 1, and all of it in version 2
abbrev pub carried_sum : ℕ → ℕ → ℕ
carried_sum version sum = if version == 1 then sum % 2 ^ 32 else sum

abbrev pub carried : Mark → Mark
carried m = record m { ascending = carried_sum m.version m.ascending; descending = carried_sum m.version m.descending }
