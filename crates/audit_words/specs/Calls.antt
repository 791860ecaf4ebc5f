-- What the words after the program's name call for.
use Rattle.std.specs.Prelude.{◌≡◌, ℕ, Bool, false, nat_eq, List, [], ◌∷◌, codes, string_bytes, Result, Ok, Err}
use Rattle.std.specs.List.{Contains, starts_with}
use Rattle.audit_words.specs.declared.{reading.Call.Call, reading.Call.TheVariants.Audit, reading.Call.TheVariants.Check, reading.Call.TheVariants.Help, reading.Call.TheVariants.Version, reading.WordsFault.WordsFault, reading.WordsFault.TheVariants.Usage, reading.WordsFault.TheVariants.Start, reading.WordsFault.TheVariants.Memory}

-- the word begins with two dashes
abbrev pub is_option : List ℕ → Bool
is_option word = starts_with nat_eq word (codes "--")

-- the words are `--check` and the file of a script, which is no option
pub record IsCheck (words : List (List ℕ)) (script : List ℕ) : Type 0 where
  pub words_are : words ≡ codes "--check" ∷ script ∷ []
  pub no_option : is_option script ≡ false

-- the words of a check are read: the script is that of the words; or the words are those of no check
abbrev pub ReadsCheck : List (List ℕ) → Result Call WordsFault → Type 0
ReadsCheck words (Ok (Check script)) = IsCheck words (string_bytes script)
ReadsCheck words (Ok (Audit asked)) = ⊥
ReadsCheck words (Ok Help) = ⊥
ReadsCheck words (Ok Version) = ⊥
ReadsCheck words (Err Usage) = (script : List ℕ) → IsCheck words script → ⊥
ReadsCheck words (Err Start) = ⊥
ReadsCheck words (Err Memory) = ⊥

-- the words of an audit are read: it is an audit, or they call for nothing
abbrev pub ReadsAudit : Result Call WordsFault → Type 0
ReadsAudit (Ok (Audit asked)) = Unit {0}
ReadsAudit (Ok (Check script)) = ⊥
ReadsAudit (Ok Help) = ⊥
ReadsAudit (Ok Version) = ⊥
ReadsAudit (Err fault) = Unit {0}

-- WHAT WORDS CALL FOR: for help, if one of them is `--help`; otherwise for the version, if one is `--version`; otherwise for a look at a
-- script, if one is `--check`; and otherwise for an audit.
pub record Reads (words : List (List ℕ)) (result : Result Call WordsFault) : Type 0 where
  pub help : Contains words (codes "--help") → result ≡ Ok Help
  pub version : (Contains words (codes "--help") → ⊥) → Contains words (codes "--version") → result ≡ Ok Version
  pub check : (Contains words (codes "--help") → ⊥) → (Contains words (codes "--version") → ⊥) → Contains words (codes "--check") → ReadsCheck words result
  pub audit : (Contains words (codes "--help") → ⊥) → (Contains words (codes "--version") → ⊥) → (Contains words (codes "--check") → ⊥) → ReadsAudit result
