-- What the commits show of the verifier: the keys that it trusts, the pieces that it accepted, and the blocks that hold them.
use Rattle.std.specs.Prelude.{ℕ, ◌/◌, ◌&&◌, List, [], ◌∷◌, length, Option, Some, None, ◌==◌, if◌then◌else◌}
use Rattle.bench_base.specs.declared.{ledger.Commit.Commit, ledger.Commit.TheVariants.Trusted, ledger.Commit.TheVariants.Accepted}
use Rattle.bench_base.specs.Rows.{first_of}

-- the key under which marks of the device are trusted
abbrev pub trusted : ℕ → List Commit → Option (List ℕ)
trusted d [] = None
trusted d (Trusted e key ∷ C) = if e == d then Some key else trusted d C
trusted d (_ ∷ C) = trusted d C

-- the scan under which the piece was first accepted
abbrev pub accepted : ℕ → ℕ → List Commit → Option ℕ
accepted d p [] = None
accepted d p (Accepted e q scan ∷ C) = if (e == d) && (q == p) then first_of (accepted d p C) (Some scan) else accepted d p C
accepted d p (_ ∷ C) = accepted d p C

-- a block is 512 pieces of one device
abbrev pub block_of : ℕ → ℕ
block_of p = p / 512

-- where the block is in a list of them, the newest first, counted from the oldest
abbrev pub block_place : ℕ → ℕ → List (ℕ × ℕ) → Option ℕ
block_place d b [] = None
block_place d b (x ∷ xs) = if (x.0 == d) && (x.1 == b) then Some (length xs) else block_place d b xs

-- the block, if it isn't there yet
abbrev pub with_block : ℕ → ℕ → List (ℕ × ℕ) → Option ℕ → List (ℕ × ℕ)
with_block d b xs None = (d, b) ∷ xs
with_block d b xs (Some place) = xs

-- the blocks in use, each once and the newest first: device and number of the block
abbrev pub blocks : List Commit → List (ℕ × ℕ)
blocks [] = []
blocks (Accepted d p scan ∷ C) = with_block d (block_of p) (blocks C) (block_place d (block_of p) (blocks C))
blocks (_ ∷ C) = blocks C
