-- Which commits of the centre count, entry by entry.
use Rattle.std.specs.Prelude.{ℕ, ◌+◌, ◌-◌, ◌^◌, min, Option, Some, None, ◌==◌, if◌then◌else◌}
use Rattle.bench_base.specs.Nodes.{is_centre, node_of}
use Rattle.bench_base.specs.declared.{ledger.Commit.Commit, ledger.Entry.Entry, ledger.Entry.TheVariants.Commit as Counts, ledger.Entry.TheVariants.Torn, ledger.Entry.TheVariants.Begin, ledger.Entry.TheVariants.Day, ledger.Entry.TheVariants.Rates, ledger.Entry.TheVariants.Sent, ledger.Entry.TheVariants.Released, ledger.Entry.TheVariants.Printed, ledger.Entry.TheVariants.Up, ledger.Entry.TheVariants.Down}
use Rattle.centre_statement.specs.declared.watch.Watch.{Watch}

-- one commit more, within 64 bits
abbrev pub one_more : ℕ → ℕ
one_more n = min (n + 1) (2 ^ 64 - 1)

-- where the centre shows so many commits, its open one counts exactly if they are one more than counted before
abbrev pub settled_at : Option Commit → ℕ → ℕ → Option Commit
settled_at torn commits shown = if shown == commits + 1 then torn else None

-- the commit of the centre that counts by an entry
abbrev pub counted_by : Watch → Entry → Option Commit
counted_by w (Counts c) = if is_centre (node_of c) then Some c else None
counted_by w (Torn n c) = None
counted_by w Begin = None
counted_by w (Day t) = None
counted_by w (Rates text) = None
counted_by w (Sent note) = None
counted_by w (Released d p mark) = None
counted_by w (Printed j mark) = None
counted_by w (Up n shown) = if is_centre n then settled_at w.torn w.commits shown else None
counted_by w (Down n) = None

-- what is seen of the centre's commits after an entry
abbrev pub watched : Watch → Entry → Watch
watched w (Counts c) = if is_centre (node_of c) then record { commits = one_more w.commits; torn = w.torn } else w
watched w (Torn n c) = if is_centre n then record { commits = w.commits; torn = Some c } else w
watched w Begin = w
watched w (Day t) = w
watched w (Rates text) = w
watched w (Sent note) = w
watched w (Released d p mark) = w
watched w (Printed j mark) = w
watched w (Up n shown) = if is_centre n then record { commits = shown; torn = None } else w
watched w (Down n) = w
