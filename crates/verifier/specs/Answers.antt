-- What the verifier answers of a mark of a trusted device: the first refusal that holds, otherwise whether its piece was accepted before. Days are
-- since 1970-01-01.
use lib.Signed.{lt_z}
use Rattle.std.specs.Prelude.{ℕ, ℤ, pos, ◌+ℤ◌, Bool, true, false, List, [], ◌∷◌, Option, Some, None, Result, Ok, Err, ◌==◌, if◌then◌else◌}
use Rattle.bench_base.specs.declared.refusals.ScanRefusal.{ScanRefusal}
use Rattle.bench_base.specs.declared.refusals.ScanRefusal.TheVariants as no
use Rattle.bench_base.specs.Rows.{first_holding}

-- why a new piece is not accepted: a mark of a later day, one older than 30 days, no block left
abbrev pub scan_rows : ℤ → ℤ → Bool → List (Bool × Result Bool ScanRefusal)
scan_rows day today full =
    (lt_z today day, Err (no.Future day))
    ∷ (lt_z (day +ℤ pos 30) today, Err (no.TooOld day))
    ∷ (full, Err no.BlocksFull)
    ∷ []

-- whether a piece was accepted before, under the same scan number n: by its mark's day, the first scan of the piece, and whether there is room
abbrev pub scan_answer : ℕ → ℤ → ℤ → Bool → Option ℕ → Result Bool ScanRefusal
scan_answer n day today full (Some first) = if first == n then Ok true else Err (no.Duplicate first)
scan_answer n day today full None = first_holding (scan_rows day today full) (Ok false)
