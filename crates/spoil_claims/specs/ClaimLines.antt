-- The lines of the desk.
use Rattle.std.specs.Prelude.{◌≡◌, ◌<◌, ◌≤◌, ◌⊎◌, ℕ, List, [], ◌∷◌, length, codes, decimal, IsOk}
use Rattle.bench_base.specs.Ranges.{IsWord, IsCustomer}
use Rattle.bench_base.specs.Table.{IsBytes}
use Rattle.bench_base.specs.declared.events.Event.TheVariants as ev
use Rattle.indicium.specs.Marks.{read_mark}
use Rattle.script_words.specs.Words.{words_in, hex_word}
use Rattle.line_extensions.specs.Events.{IsLineOf}
use Rattle.spoil_claims.specs.declared.{claim.ClaimLine.ClaimLine, claim.ClaimLine.TheVariants.Claim, claim.ClaimLine.TheVariants.Credits, claim.ClaimLine.TheVariants.Reserved}

-- the line is that of a scan under this number
abbrev pub IsScan : ℕ → List ℕ → Type 0
IsScan n line = ((k : ℕ) × IsLineOf (ev.ScanMsg n k) line) ⊎ ((bytes : List ℕ) × IsLineOf (ev.ScanHex n bytes) line)

-- a claim is counted from 1, and its mark reads
pub record IsClaim (c w : ℕ) (mark : List ℕ) : Type 0 where
  pub first : 1 ≤ c
  pub word : IsWord c
  pub customer : IsCustomer w
  pub long : length mark ≡ 64
  pub bytes : IsBytes mark
  pub reads : IsOk (read_mark mark)

-- the line is one that may be written
abbrev pub IsLine : ClaimLine → Type 0
IsLine (Claim c w mark) = IsClaim c w mark
IsLine (Credits w) = IsCustomer w
IsLine Reserved = Unit {0}

abbrev pub IsClaimLine : ClaimLine → List ℕ → Type 0
IsClaimLine (Claim c w mark) line = IsClaim c w mark × (words_in line ≡ codes "claim" ∷ decimal c ∷ decimal w ∷ hex_word mark ∷ [])
IsClaimLine (Credits w) line = IsCustomer w × (words_in line ≡ codes "credits" ∷ decimal w ∷ [])
IsClaimLine Reserved line = (n : ℕ) × (3000000000 < n) × IsScan n line
