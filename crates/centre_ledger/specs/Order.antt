-- The order of the centre's commits, the newest first.
use Rattle.std.specs.Prelude.{◌≡◌, ◌+◌, ◌<◌, ◌≤◌, true, false, List, [], ◌∷◌, None, IsSome}
use Rattle.bench_base.specs.declared.{ledger.Commit.Commit, ledger.Commit.TheVariants.Registered, ledger.Commit.TheVariants.Opened, ledger.Commit.TheVariants.Deposited, ledger.Commit.TheVariants.Flagged, ledger.Commit.TheVariants.Ruled, ledger.Commit.TheVariants.Settled}
use Rattle.ledger_terms.specs.Requests.{request_in}
use Rattle.ledger_terms.specs.Centres.{registered, opened, deposits, ruled}
use Rattle.ledger_terms.specs.Rulings.{verdict}

-- a device is registered once, and a customer opened once, before the centre's other commits of them; a Ruled has a greater
-- number than those before it, and the verdict that follows from the commits before it
abbrev pub Follows : Commit → List Commit → Type 0
Follows (Registered d origin key) C = registered d C ≡ None
Follows (Opened c) C = opened c C ≡ false
Follows (Deposited c receipt amount) C = (opened c C ≡ true) × (deposits c C + amount ≤ 1000000000000000)
Follows (Flagged c flag) C = opened c C ≡ true
Follows (Ruled d n v note) C = IsSome (registered d C) × (ruled d C < n) × (v ≡ (verdict C (request_in note)).0)
Follows (Settled d n) C = IsSome (registered d C)
Follows _ C = Unit {0}

-- each commit comes after those before it in the centre's order
abbrev pub InOrder : List Commit → Type 0
InOrder [] = Unit {0}
InOrder (c ∷ C) = Follows c C × InOrder C
