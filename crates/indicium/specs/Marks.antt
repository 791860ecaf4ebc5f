-- The indicium: 64 bytes, in two versions.
use Rattle.std.specs.Prelude.{◌≡◌, ℕ, List, [], ◌∷◌, ◌++◌, length, drop, get_or, Result, Ok, Err, ◌==◌, if◌then◌else◌, FitsSigned}
use Rattle.std.specs.Int.{w32, cast_unsigned, cast_signed}
use Rattle.hmac_core.specs.Hmac.{hmac}
use Rattle.bench_base.specs.Table.{Size, One, Two, Four, Five, row, values, Fit}
use Rattle.bench_base.specs.Rules.{is_version, IsVersion}
use Rattle.indicium.specs.declared.Mark.{Mark}
use Rattle.bench_base.specs.declared.{refusals.MarkFault.MarkFault, refusals.MarkFault.TheVariants.Length, refusals.MarkFault.TheVariants.Version, refusals.MarkFault.TheVariants.Algorithm}

-- device, piece, postage, ascending, descending, day, origin, class; version 2 has wider registers and a narrower device
abbrev pub mark_fields : ℕ → List Size
mark_fields version =
    if version == 1
    then Four ∷ Four ∷ Four ∷ Four ∷ Four ∷ Four ∷ Four ∷ Two ∷ []
    else Two ∷ Four ∷ Four ∷ Five ∷ Five ∷ Four ∷ Four ∷ Two ∷ []

-- before them version and algorithm
abbrev pub mark_table : ℕ → List Size
mark_table version = One ∷ One ∷ mark_fields version

-- the numbers of a mark, field by field
abbrev pub mark_values : Mark → List ℕ
mark_values m = m.version ∷ 1 ∷ m.device ∷ m.piece ∷ m.postage ∷ m.ascending ∷ m.descending ∷ cast_unsigned w32 m.day ∷ m.origin ∷ m.class ∷ []

-- the mark of these numbers
abbrev pub mark_from : List ℕ → Mark
mark_from vs = record {
  version = get_or vs 0 0;
  device = get_or vs 2 0;
  piece = get_or vs 3 0;
  postage = get_or vs 4 0;
  ascending = get_or vs 5 0;
  descending = get_or vs 6 0;
  day = cast_signed w32 (get_or vs 7 0);
  origin = get_or vs 8 0;
  class = get_or vs 9 0;
}

-- the 32 bytes that the code is over
unfoldable pub body : Mark → List ℕ
body m = row (mark_table m.version) (mark_values m)

-- the one spelling of a mark under a key
unfoldable pub spell : Mark → List ℕ → List ℕ
spell m key = body m ++ hmac key (body m)

-- the version is 1 or 2, and the numbers fit their fields in it
pub record IsWhole (m : Mark) : Type 0 where
  pub version : IsVersion m.version
  pub fit : Fit (mark_table m.version) (mark_values m)
  pub day : FitsSigned w32 m.day

-- the mark in these bytes
unfoldable pub mark_at : List ℕ → Mark
mark_at bytes = mark_from (values 0 (mark_table (get_or bytes 0 0)) bytes)

-- the mark and the code of these bytes, or the first fault
unfoldable pub read_mark : List ℕ → Result (Mark × List ℕ) MarkFault
read_mark bytes =
    if length bytes == 64
    then (if is_version (get_or bytes 0 0)
    then (if get_or bytes 1 0 == 1 then Ok (mark_at bytes, drop 32 bytes) else Err (Algorithm (get_or bytes 1 0)))
    else Err (Version (get_or bytes 0 0)))
    else Err (Length (length bytes))

-- the bytes read as this mark, with this code after it
pub record ReadsAs (bytes : List ℕ) (mark : Mark) (code : List ℕ) : Type 0 where
  pub whole : IsWhole mark
  pub spelled : bytes ≡ body mark ++ code
  pub long : length code ≡ 32

-- the bytes are the spelling of some mark under the key
abbrev pub IsSpelled : List ℕ → List ℕ → Type 0
IsSpelled bytes key = (mark : Mark) × IsWhole mark × (bytes ≡ spell mark key)
