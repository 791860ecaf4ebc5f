use Rattle.std.proofs.Common.{take}
use Rattle.std.specs.Prelude.{flat_map}
use Rattle.audit_sheet.specs.Sheets.{Adds, escaped}
use Rattle.audit_sheet.proofs.sheet.Sheet.put_all_escaped.Given as goal

abbrev pub invariant-loop-at : goal.invariant-loop-at
invariant-loop-at l = Adds (flat_map escaped (take l.at l.bytes)) l.initial.self.bytes.items l.self.bytes.items l.initial.self.is_whole l.self.is_whole
