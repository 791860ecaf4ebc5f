-- What the newest entry adds to the commits that count.
use Rattle.std.specs.Prelude.{ℕ, ◌+◌, List, ◌∷◌, Option, Some, None, ◌==◌, if◌then◌else◌}
use Rattle.bench_base.specs.declared.{words.Node.Node, ledger.Commit.Commit, ledger.Entry.TheVariants.Commit as Counts, ledger.Entry.TheVariants.Up}
use Rattle.bench_base.specs.Ledger.{Ledger, counted, count_of, torn_of}

-- the open commit, where an Up with this count makes it count
abbrev pub settled_by : Option Commit → Node → ℕ → List Commit → Option Commit
settled_by None n k C = None
settled_by (Some c) n k C = if k == count_of n C + 1 then Some c else None

-- the commit that counts by the newest entry
abbrev pub newest : Ledger → Option Commit
newest (Counts c ∷ H) = Some c
newest (Up n k ∷ H) = settled_by (torn_of n H) n k (counted H)
newest H = None

-- the list with what is there in front
abbrev pub grown : Option Commit → List Commit → List Commit
grown None C = C
grown (Some c) C = c ∷ C
