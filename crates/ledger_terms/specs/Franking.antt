-- The mark of each debit.
use Rattle.std.specs.Prelude.{ℕ, ℤ, ◌+◌, ◌-◌, ◌&&◌, List, [], ◌∷◌, Option, Some, None, ◌==◌, if◌then◌else◌}
use Rattle.bench_base.specs.declared.{ledger.Commit.Commit, ledger.Commit.TheVariants.Debited}
use Rattle.bench_base.specs.Rows.{first_of}
use Rattle.indicium.specs.declared.Mark.{Mark}
use Rattle.indicium.specs.Marks.{spell}
use Rattle.ledger_terms.specs.Sums.{ascending, descending}
use Rattle.ledger_terms.specs.Devices.{key_of, origin}

-- the key, or no bytes
abbrev pub key_or_none : Option (List ℕ) → List ℕ
key_or_none None = []
key_or_none (Some key) = key

-- the mark of a debit after these commits: piece, postage, class, day and version as given, and the registers just after it
unfoldable pub mark_after : ℕ → ℕ → ℕ → ℕ → ℤ → ℕ → List Commit → Mark
mark_after d piece postage class day version C = record {
  version = version;
  device = d;
  piece = piece;
  postage = postage;
  ascending = ascending d C + postage;
  descending = descending d C - postage;
  day = day;
  origin = origin d C;
  class = class;
}

-- its spelling under the device's key
unfoldable pub indicium_after : ℕ → ℕ → ℕ → ℕ → ℤ → ℕ → List Commit → List ℕ
indicium_after d piece postage class day version C = spell (mark_after d piece postage class day version C) (key_or_none (key_of d C))

-- the kept mark: that of the last Debited
abbrev pub kept : ℕ → List Commit → Option Mark
kept d [] = None
kept d (Debited e piece postage class day version ∷ C) = if e == d then Some (mark_after d piece postage class day version C) else kept d C
kept d (_ ∷ C) = kept d C

-- the spelling of the mark of the first Debited of this piece
abbrev pub marked : ℕ → ℕ → List Commit → Option (List ℕ)
marked d p [] = None
marked d p (Debited e q postage class day version ∷ C) = if (e == d) && (q == p)
    then first_of (marked d p C) (Some (indicium_after d q postage class day version C)) else marked d p C
marked d p (_ ∷ C) = marked d p C
