-- The order of the verifier's commits, the newest first.
use Rattle.std.specs.Prelude.{◌≡◌, ◌≤◌, List, [], ◌∷◌, length, None, IsSome}
use Rattle.bench_base.specs.declared.{ledger.Commit.Commit, ledger.Commit.TheVariants.Trusted, ledger.Commit.TheVariants.Accepted}
use Rattle.bench_base.specs.Scans.{trusted, accepted, blocks}

-- a device is trusted once, and before its pieces are accepted; a piece is accepted once
abbrev pub Follows : Commit → List Commit → Type 0
Follows (Trusted d key) C = trusted d C ≡ None
Follows (Accepted d piece scan) C = IsSome (trusted d C) × (accepted d piece C ≡ None)
Follows _ C = Unit {0}

-- each commit comes after those before it in the verifier's order
abbrev pub InOrder : List Commit → Type 0
InOrder [] = Unit {0}
InOrder (c ∷ C) = Follows c C × InOrder C

-- there are cells for all blocks in use
abbrev pub IsRoomy : List Commit → Type 0
IsRoomy C = length (blocks C) ≤ 1024
