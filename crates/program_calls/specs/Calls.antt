-- What the words of the program call for.
use Rattle.std.specs.Prelude.{List, [], ◌∷◌, ℕ, codes}
use Rattle.script_text.specs.Programs.{program_words, AreInRange}
use Rattle.program_calls.specs.declared.{call.Call.Call, call.Call.TheVariants.Bench, call.Call.TheVariants.Claims, call.Call.TheVariants.Departments, call.Call.TheVariants.Statement, call.Call.TheVariants.Manifest, call.Call.TheVariants.Recompute, call.Uses.Uses}
use Rattle.program_calls.specs.declared.call.Uses.TheVariants as uses

-- the words of each call
abbrev pub call_words : Call → List (List ℕ)
call_words (Bench words) = program_words words
call_words Claims = codes "claims" ∷ []
call_words Departments = codes "departments" ∷ []
call_words Statement = codes "statement" ∷ []
call_words Manifest = codes "manifest" ∷ []
call_words Recompute = codes "recompute" ∷ []

-- its numbers are in their ranges
abbrev pub IsCall : Call → Type 0
IsCall (Bench words) = AreInRange words
IsCall Claims = Unit {0}
IsCall Departments = Unit {0}
IsCall Statement = Unit {0}
IsCall Manifest = Unit {0}
IsCall Recompute = Unit {0}

-- the storages that each call uses, under the folder's lock
abbrev pub uses_of : Call → Uses
uses_of (Bench words) = uses.Bench
uses_of Claims = uses.Claims
uses_of Departments = uses.Departments
uses_of Statement = uses.Bench
uses_of Manifest = uses.Bench
uses_of Recompute = uses.Nothing
