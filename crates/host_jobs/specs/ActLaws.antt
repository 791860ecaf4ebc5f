-- What holds of the acts of all rows: they leave sound rows, and are by the rows of some commits what they are by these.
use Rattle.std.specs.Prelude.{◌≡◌, ℕ, List, [], ◌∷◌, Option, Result, IfSome, IfOk}
use Rattle.bench_base.specs.Nodes.{node_of}
use Rattle.bench_base.specs.Ranges.{IsDevice, IsPostage}
use Rattle.bench_base.specs.Cells.{OfJob, place_of}
use Rattle.bench_base.specs.Jobs.{cell_of}
use Rattle.bench_base.specs.declared.{words.Node.TheVariants.Host, refusals.RateRefusal.RateRefusal, ledger.Commit.Commit}
use Rattle.node_acts.specs.Acts.{OfCommit}
use Rattle.node_acts.specs.declared.act.Act.{Act}
use Rattle.host_jobs.specs.declared.rows.JobRow.{JobRow}
use Rattle.host_jobs.specs.Acts.{HostAct, order_by, order_act, debit_message_by, debit_message_act, take_by, take_act, begin_print_by, begin_print_act, close_by, close_act}
use Rattle.host_jobs.specs.Plans.{in_commits}
use Rattle.host_jobs.specs.Records.{rows_after}
use Rattle.host_jobs.specs.Rows.{Jobs, no_jobs, put_row}
use Rattle.host_jobs.specs.Soundness.{AreSound, IsNext}
use Rattle.host_jobs.specs.Turns.{InTurn}

-- == the rows stay sound ==

-- where the act commits a row, it is one that these rows can take, and the commit is the host's and lies in the cell of the row
abbrev pub LeavesSound : {F A : Type 0} → Jobs → Act JobRow F A → Type 0
LeavesSound rows = OfCommit (λ c x. IsNext rows x × (node_of c ≡ Host) × (place_of c ≡ OfJob (cell_of x.job)))

-- a price is a postage that a piece may be franked with
abbrev pub IsPrice : Option (Result ℕ RateRefusal) → Type 0
IsPrice price = IfSome price (λ r. IfOk r IsPostage)

pub record SoundActs (rows : Jobs) : Type 0 where
  pub ordered : (d piece class : ℕ) (price : Option (Result ℕ RateRefusal)) → IsDevice d → IsPrice price → LeavesSound rows (order_act d piece class price rows)
  pub sent : (j : ℕ) → LeavesSound rows (debit_message_act j rows)
  pub taken : (bytes : List ℕ) → LeavesSound rows (take_act bytes rows)
  pub begun : (j : ℕ) → LeavesSound rows (begin_print_act j rows)
  pub closed : (j : ℕ) → LeavesSound rows (close_act j rows)

abbrev pub ActsLeaveSound : Type 0
ActsLeaveSound = (rows : Jobs) → AreSound rows → SoundActs rows

-- == the rows of commits ==

-- these are the rows of the commits, which come in the host's turn
pub record AreRowsOf (rows : Jobs) (C : List Commit) : Type 0 where
  pub order : InTurn C
  pub are : rows ≡ rows_after C

-- where the act commits a row, the rows with it are those of the commits and that one
abbrev pub FollowsCommits : {A : Type 0} → Jobs → List Commit → HostAct A → Type 0
FollowsCommits rows C = OfCommit (λ c x. AreRowsOf (put_row rows x) (c ∷ C))

pub record FollowingActs (rows : Jobs) (C : List Commit) : Type 0 where
  pub ordered : (d piece class : ℕ) (price : Option (Result ℕ RateRefusal)) → IsDevice d → FollowsCommits rows C (order_act d piece class price rows)
  pub taken : (bytes : List ℕ) → FollowsCommits rows C (take_act bytes rows)
  pub begun : (j : ℕ) → FollowsCommits rows C (begin_print_act j rows)
  pub closed : (j : ℕ) → FollowsCommits rows C (close_act j rows)

pub record ActsFollow : Type 0 where
  -- at the start there are no rows
  pub none : AreRowsOf no_jobs []
  pub each : (rows : Jobs) (C : List Commit) → AreSound rows → AreRowsOf rows C → FollowingActs rows C

-- == what is looked up ==

-- each act by the rows of the commits is the one by the commits, off which the ledger's plan is read
pub record PlannedActs (rows : Jobs) (C : List Commit) : Type 0 where
  pub ordered : (d piece class : ℕ) (price : Option (Result ℕ RateRefusal)) → IsDevice d
      → order_act d piece class price rows ≡ order_by d piece class price (in_commits C)
  pub sent : (j : ℕ) → debit_message_act j rows ≡ debit_message_by j (in_commits C)
  pub taken : (bytes : List ℕ) → take_act bytes rows ≡ take_by bytes (in_commits C)
  pub begun : (j : ℕ) → begin_print_act j rows ≡ begin_print_by j (in_commits C)
  pub closed : (j : ℕ) → close_act j rows ≡ close_by j (in_commits C)

abbrev pub ActsArePlanned : Type 0
ActsArePlanned = (rows : Jobs) (C : List Commit) → AreSound rows → AreRowsOf rows C → PlannedActs rows C
