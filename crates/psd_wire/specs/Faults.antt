-- Why bytes are no message. Each fault holds only where those before it do not.
use Rattle.std.specs.Prelude.{◌≡◌, ◌≢◌, ◌==◌, if◌then◌else◌, ℕ, ℤ, ◌<◌, ◌≤◌, ◌⊎◌, List, length, take, drop, slice_index, Option, Some, None, IsSome, IsErr}
use Rattle.std.specs.Int.{w32, from_be_bytes, cast_signed}
use Rattle.bench_base.specs.declared.{words.Kind.Kind, words.Verdict.Verdict, refusals.Unread.Unread}
use Rattle.bench_base.specs.declared.refusals.Unread.TheVariants as unread
use Rattle.bench_base.specs.Rules.{IsVersion}
use Rattle.indicium.specs.Marks.{read_mark}
use Rattle.psd_wire.specs.Grammar.{kind_of, verdict_of, day_of, size_of}

-- the version is 1 or 2, and the tag is one of that version, with messages of n bytes
pub record IsTagged (bytes : List ℕ) (t n : ℕ) : Type 0 where
  pub two : 2 ≤ length bytes
  pub version : IsVersion (slice_index bytes 0)
  pub tag : slice_index bytes 1 ≡ t
  pub size : size_of (slice_index bytes 0) t ≡ Some n

-- a message of the tag, as far as its length goes
abbrev pub IsFramed : List ℕ → ℕ → Type 0
IsFramed bytes tag = IsTagged bytes tag (length bytes)

-- the kind of a Request or Reply, the verdict of a Reply, the day of a Request
abbrev pub kind_at : List ℕ → Option Kind
kind_at bytes = kind_of (slice_index bytes 10)

abbrev pub verdict_at : List ℕ → Option Verdict
verdict_at bytes = verdict_of (slice_index bytes 11)

-- the day is the last field
abbrev pub day_place : ℕ → ℕ
day_place version = if version == 1 then 35 else 51

abbrev pub day_at : List ℕ → Option ℤ
day_at bytes = day_of (cast_signed w32 (from_be_bytes w32 (take 4 (drop (day_place (slice_index bytes 0)) bytes))))

abbrev pub HasFault : Unread → List ℕ → Type 0
HasFault unread.Length bytes = (length bytes < 2) ⊎ ((tag : ℕ) × (n : ℕ) × IsTagged bytes tag n × (length bytes ≢ n))
HasFault unread.Version bytes = (2 ≤ length bytes) × (slice_index bytes 0 ≢ 1) × (slice_index bytes 0 ≢ 2)
HasFault unread.Tag bytes = (2 ≤ length bytes) × IsVersion (slice_index bytes 0) × (size_of (slice_index bytes 0) (slice_index bytes 1) ≡ None)
HasFault unread.Kind bytes = (IsFramed bytes 1 ⊎ IsFramed bytes 2) × (kind_at bytes ≡ None)
HasFault unread.Verdict bytes = IsFramed bytes 2 × IsSome (kind_at bytes) × (verdict_at bytes ≡ None)
HasFault unread.Day bytes = IsFramed bytes 1 × IsSome (kind_at bytes) × (day_at bytes ≡ None)
HasFault unread.Mark bytes = IsFramed bytes 17 × IsErr (read_mark (drop 2 bytes))
