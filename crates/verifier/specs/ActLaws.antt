-- What holds of the acts of the verifier: they leave sound rows, and are by the rows of some commits what they are by these.
use Rattle.std.specs.Prelude.{◌≡◌, ℕ, ℤ, ◌<◌, false, List, [], ◌∷◌, Some, None}
use Rattle.bench_base.specs.declared.{sizes.TheConstants.VERIFIER_CELLS, sizes.TheConstants.BLOCK_PIECES, words.Node.TheVariants.Verifier, ledger.Commit.Commit}
use Rattle.bench_base.specs.Cells.{place_of}
use Rattle.bench_base.specs.Cells as cells
use Rattle.bench_base.specs.Ledger.{count_of}
use Rattle.bench_base.specs.Nodes.{node_of, same_node}
use Rattle.bench_base.specs.Ranges.{IsDevice, IsKey, IsCount}
use Rattle.bench_base.specs.Table.{IsBytes}
use Rattle.node_acts.specs.RowList.{row_at, commits_at, commits_in}
use Rattle.node_acts.specs.Acts.{OfCommit}
use Rattle.node_acts.specs.declared.act.Act.{Act}
use Rattle.verifier.specs.declared.acts.Change.{Change}
use Rattle.verifier.specs.declared.acts.Change.TheVariants as change
use Rattle.verifier.specs.Acts.{ScanAct, trust_by, trust_act, scan_by, scan_act}
use Rattle.verifier.specs.Plans.{in_commits}
use Rattle.verifier.specs.Records.{seen_after, IsRecorded}
use Rattle.verifier.specs.Seen.{Seen, AreSound, block_in, row_in, cell_of, counting}

-- == the rows stay sound ==

-- the change is one of its cell: a block's cell holds no other block, and the block has the place
abbrev pub IsOwn : Seen → Change → Type 0
IsOwn s (change.Trust d key) = Unit {0}
IsOwn s (change.Accept cell d b place n) = (place < BLOCK_PIECES) × ((e c : ℕ) → block_in (row_in s cell) ≡ Some (e, c) → (e ≡ d) × (c ≡ b))

-- the rows can take the change: its cell is there, and they are sound with it
pub record IsFit (s : Seen) (x : Change) : Type 0 where
  pub inside : cell_of x < VERIFIER_CELLS
  pub own : IsOwn s x
  pub sound : AreSound (counting.after s x)

-- where the act commits a change, the commit is the verifier's, and the rows can take it
abbrev pub LeavesSound : {F A : Type 0} → Seen → Act Change F A → Type 0
LeavesSound s = OfCommit (λ c x. IsFit s x × (node_of c ≡ Verifier))

pub record SoundActs (s : Seen) : Type 0 where
  pub trusted : (d : ℕ) (key : List ℕ) → IsDevice d → IsKey key → LeavesSound s (trust_act d key s)
  pub scanned : (n : ℕ) (bytes : List ℕ) (today : ℤ) → IsCount n → IsBytes bytes → LeavesSound s (scan_act n bytes today s)

abbrev pub ActsLeaveSound : Type 0
ActsLeaveSound = (s : Seen) → AreSound s → SoundActs s

-- == the rows of commits ==

-- the rows of the commits with this change are those of the commits and the one more, which lies in the cell that the change names
pub record IsNext (C : List Commit) (c : Commit) (x : Change) : Type 0 where
  pub recorded : IsRecorded (c ∷ C)
  pub seen : counting.after (seen_after C) x ≡ seen_after (c ∷ C)
  pub count : commits_at (row_at (seen_after C) (cell_of x)) ≡ cells.commits_at (place_of c) C

abbrev pub FollowsCommits : {A : Type 0} → List Commit → ScanAct A → Type 0
FollowsCommits C = OfCommit (λ c x. IsNext C c x)

pub record FollowingActs (C : List Commit) : Type 0 where
  pub trusted : (d : ℕ) (key : List ℕ) → IsDevice d → IsKey key → FollowsCommits C (trust_act d key (seen_after C))
  pub scanned : (n : ℕ) (bytes : List ℕ) (today : ℤ) → IsCount n → IsBytes bytes → FollowsCommits C (scan_act n bytes today (seen_after C))

pub record ActsFollow : Type 0 where
  -- at the start there are no rows
  pub none : (k : ℕ) → row_at (seen_after []) k ≡ None
  pub sound : (C : List Commit) → IsRecorded C → AreSound (seen_after C)
  pub counted : (C : List Commit) → IsRecorded C → commits_in (seen_after C) ≡ count_of Verifier C
  -- the other nodes' commits leave the rows
  pub others : (c : Commit) (C : List Commit) → same_node (node_of c) Verifier ≡ false → seen_after (c ∷ C) ≡ seen_after C
  pub each : (C : List Commit) → IsRecorded C → FollowingActs C

-- == what is looked up ==

-- each act by the rows of the commits is the one by the commits, off which the ledger's plan is read
pub record PlannedActs (C : List Commit) : Type 0 where
  pub trusted : (d : ℕ) (key : List ℕ) → trust_act d key (seen_after C) ≡ trust_by d key (in_commits C)
  pub scanned : (n : ℕ) (bytes : List ℕ) (today : ℤ) → scan_act n bytes today (seen_after C) ≡ scan_by n bytes today (in_commits C)

abbrev pub ActsArePlanned : Type 0
ActsArePlanned = (C : List Commit) → IsRecorded C → PlannedActs C
