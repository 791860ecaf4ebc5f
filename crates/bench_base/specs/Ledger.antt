-- A ledger is a list of entries, the newest first. This is what the bench sees of it, and the commits in it that count.
use Rattle.std.specs.Prelude.{◌≡◌, ℕ, ℤ, ◌+◌, Bool, true, false, List, [], ◌∷◌, Option, Some, None, ◌==◌, ◌⊎◌, if◌then◌else◌}
use Rattle.bench_base.specs.declared.{words.Node.Node, ledger.Commit.Commit, ledger.Entry.Entry, ledger.Entry.TheVariants.Commit as Counts, ledger.Entry.TheVariants.Torn, ledger.Entry.TheVariants.Begin, ledger.Entry.TheVariants.Day, ledger.Entry.TheVariants.Rates, ledger.Entry.TheVariants.Sent, ledger.Entry.TheVariants.Released, ledger.Entry.TheVariants.Printed, ledger.Entry.TheVariants.Up, ledger.Entry.TheVariants.Down}
use Rattle.bench_base.specs.Nodes.{same_node, node_of}

-- a ledger, the newest entry first
abbrev pub Ledger : Type 0
Ledger = List Entry

-- the last day after the last Begin
abbrev pub day_in : Ledger → Option ℤ
day_in [] = None
day_in (Day t ∷ H) = Some t
day_in (Begin ∷ H) = None
day_in (_ ∷ H) = day_in H

-- the text of the last rates after the last Begin
abbrev pub rates_in : Ledger → Option (List ℕ)
rates_in [] = None
rates_in (Rates text ∷ H) = Some text
rates_in (Begin ∷ H) = None
rates_in (_ ∷ H) = rates_in H

-- how many messages were sent after the last Begin
abbrev pub messages : Ledger → ℕ
messages [] = 0
messages (Sent bytes ∷ H) = messages H + 1
messages (Begin ∷ H) = 0
messages (_ ∷ H) = messages H

-- message k: the k-th that was sent after the last Begin, counted from 0
abbrev pub message : ℕ → Ledger → Option (List ℕ)
message k [] = None
message k (Sent bytes ∷ H) = if k == messages H then Some bytes else message k H
message k (Begin ∷ H) = None
message k (_ ∷ H) = message k H

-- the bytes were sent as a message, in this run or an earlier one
abbrev pub IsSent : List ℕ → Ledger → Type 0
IsSent bytes [] = ⊥
IsSent bytes (Sent x ∷ H) = (x ≡ bytes) ⊎ IsSent bytes H
IsSent bytes (_ ∷ H) = IsSent bytes H

-- this mark was released
abbrev pub IsReleased : List ℕ → Ledger → Type 0
IsReleased mark [] = ⊥
IsReleased mark (Released d piece x ∷ H) = (x ≡ mark) ⊎ IsReleased mark H
IsReleased mark (_ ∷ H) = IsReleased mark H

-- a mark of this device and piece was released
abbrev pub IsReleasedAs : ℕ → ℕ → Ledger → Type 0
IsReleasedAs d piece [] = ⊥
IsReleasedAs d piece (Released e q mark ∷ H) = ((e ≡ d) × (q ≡ piece)) ⊎ IsReleasedAs d piece H
IsReleasedAs d piece (_ ∷ H) = IsReleasedAs d piece H

-- the line of this job was printed
abbrev pub IsPrinted : ℕ → Ledger → Type 0
IsPrinted j [] = ⊥
IsPrinted j (Printed i mark ∷ H) = (i ≡ j) ⊎ IsPrinted j H
IsPrinted j (_ ∷ H) = IsPrinted j H

-- of the Up, Down and Torn of this node and the Begins, the last is Up
abbrev pub is_on : Node → Ledger → Bool
is_on n [] = false
is_on n (Up m k ∷ H) = if same_node m n then true else is_on n H
is_on n (Down m ∷ H) = if same_node m n then false else is_on n H
is_on n (Torn m c ∷ H) = if same_node m n then false else is_on n H
is_on n (Begin ∷ H) = false
is_on n (_ ∷ H) = is_on n H

-- how many of the commits are the node's
abbrev pub count_of : Node → List Commit → ℕ
count_of n [] = 0
count_of n (c ∷ C) = if same_node (node_of c) n then count_of n C + 1 else count_of n C

-- the open commit of a node: its last Torn, until an Up of the node settles it
abbrev pub torn_of : Node → Ledger → Option Commit
torn_of n [] = None
torn_of n (Torn m c ∷ H) = if same_node m n then Some c else torn_of n H
torn_of n (Up m k ∷ H) = if same_node m n then None else torn_of n H
torn_of n (_ ∷ H) = torn_of n H

-- the commits that count after an Up of node n that shows k: the open commit counts if and only if k is one more than the
-- commits of n before
abbrev pub at_up : Option Commit → Node → ℕ → List Commit → List Commit
at_up None n k C = C
at_up (Some c) n k C = if k == count_of n C + 1 then c ∷ C else C

-- the commits that count, the newest first
abbrev pub counted : Ledger → List Commit
counted [] = []
counted (Counts c ∷ H) = c ∷ counted H
counted (Up n k ∷ H) = at_up (torn_of n H) n k (counted H)
counted (_ ∷ H) = counted H
