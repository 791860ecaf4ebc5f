-- The cells of storage that commits go to, and when one is worn.
use Rattle.std.specs.Prelude.{ℕ, ◌+◌, Bool, false, ◌&&◌, List, [], ◌∷◌, ◌==◌, nat_le, if◌then◌else◌}
use Rattle.bench_base.specs.declared.{ledger.Commit.Commit, ledger.Commit.TheVariants.Made, ledger.Commit.TheVariants.Asked, ledger.Commit.TheVariants.Applied, ledger.Commit.TheVariants.Debited, ledger.Commit.TheVariants.Registered, ledger.Commit.TheVariants.Opened, ledger.Commit.TheVariants.Deposited, ledger.Commit.TheVariants.Flagged, ledger.Commit.TheVariants.Ruled, ledger.Commit.TheVariants.Settled, ledger.Commit.TheVariants.Ordered, ledger.Commit.TheVariants.Held, ledger.Commit.TheVariants.Began, ledger.Commit.TheVariants.Closed, ledger.Commit.TheVariants.Trusted, ledger.Commit.TheVariants.Accepted, sizes.TheConstants.MOST_COMMITS}
use Rattle.bench_base.specs.Jobs.{cell_of}
use Rattle.bench_base.specs.Scans.{block_of}

-- a cell of some storage
pub data Place : Type 0 where
  -- a device's one cell
  OfDevice : ℕ → Place
  -- the centre's cell of a device, and of a customer
  OfRow : ℕ → Place
  OfCustomer : ℕ → Place
  -- the host's cell
  OfJob : ℕ → Place
  -- the verifier's cell of a device, and of a block of a device's pieces
  OfTrust : ℕ → Place
  OfBlock : ℕ → ℕ → Place

-- whether the two are one cell
abbrev pub same_place : Place → Place → Bool
same_place (OfDevice d) (OfDevice e) = d == e
same_place (OfRow d) (OfRow e) = d == e
same_place (OfCustomer c) (OfCustomer e) = c == e
same_place (OfJob j) (OfJob i) = j == i
same_place (OfTrust d) (OfTrust e) = d == e
same_place (OfBlock d b) (OfBlock e k) = (d == e) && (b == k)
same_place _ _ = false

-- the cell that a commit goes to
abbrev pub place_of : Commit → Place
place_of (Made d key) = OfDevice d
place_of (Asked d n note) = OfDevice d
place_of (Applied d n v) = OfDevice d
place_of (Debited d piece postage class day version) = OfDevice d
place_of (Registered d origin key) = OfRow d
place_of (Opened c) = OfCustomer c
place_of (Deposited c receipt amount) = OfCustomer c
place_of (Flagged c suspended) = OfCustomer c
place_of (Ruled d n v note) = OfRow d
place_of (Settled d n) = OfRow d
place_of (Ordered j d piece postage class) = OfJob (cell_of j)
place_of (Held j mark) = OfJob (cell_of j)
place_of (Began j) = OfJob (cell_of j)
place_of (Closed j) = OfJob (cell_of j)
place_of (Trusted d key) = OfTrust d
place_of (Accepted d piece scan) = OfBlock d (block_of piece)

-- how many of the commits lie in the cell
abbrev pub commits_at : Place → List Commit → ℕ
commits_at place [] = 0
commits_at place (c ∷ C) = if same_place (place_of c) place then commits_at place C + 1 else commits_at place C

-- the cell of the commit has as many commits as can be counted
unfoldable pub is_worn : Commit → List Commit → Bool
is_worn c C = nat_le MOST_COMMITS (commits_at (place_of c) C)
