-- A source that may be missing.
use Rattle.std.specs.Prelude.{ℕ, List, [], Option, Some}
use Rattle.meter_run.specs.declared.{rates_file.RatesFile.RatesFile, rates_file.RatesFile.TheVariants.Missing, rates_file.RatesFile.TheVariants.There}

-- what is left of it, and its faults: of a missing one nothing, and none
abbrev pub left_of : {S : Type 0} → (S → Option (List ℕ)) → RatesFile S → Option (List ℕ)
left_of left Missing = Some []
left_of left (There s) = left s

abbrev pub faults_of : {S : Type 0} → (S → ℕ) → RatesFile S → ℕ
faults_of faults Missing = 0
faults_of faults (There s) = faults s
