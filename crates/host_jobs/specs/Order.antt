-- The order of the host's commits, the newest first.
use Rattle.std.specs.Prelude.{◌≡◌, ℕ, ◌+◌, ◌-◌, ◌≤◌, true, List, [], ◌∷◌, Some, None, Ok}
use Rattle.bench_base.specs.declared.words.JobState.TheVariants as state
use Rattle.bench_base.specs.declared.{ledger.Commit.Commit, ledger.Commit.TheVariants.Ordered, ledger.Commit.TheVariants.Held, ledger.Commit.TheVariants.Began, ledger.Commit.TheVariants.Closed}
use Rattle.bench_base.specs.Jobs.{Job, last_job, job_of, state_of, held_of, in_cells}
use Rattle.indicium.specs.declared.Mark.{Mark}
use Rattle.indicium.specs.Marks.{read_mark}

-- the bytes are a mark of the job's device, piece, postage and class
pub record IsMarkOf (b : Job) (bytes : List ℕ) : Type 0 where
  pub mark : Mark
  pub code : List ℕ
  pub reads : read_mark bytes ≡ Ok (mark, code)
  pub device : mark.device ≡ b.device
  pub piece : mark.piece ≡ b.piece
  pub postage : mark.postage ≡ b.postage
  pub class : mark.class ≡ b.class

-- the k-th Ordered has job k, and the job that was in its cell is closed; the other commits of a job come while a cell holds
-- it, and it is held once, by a mark of its own
abbrev pub Follows : Commit → List Commit → Type 0
Follows (Ordered j d piece postage class) C = (j ≡ last_job C + 1) × (1024 ≤ last_job C → state_of (last_job C - 1023) C ≡ Some state.Closed)
Follows (Held j mark) C = (in_cells j C ≡ true) × (held_of j C ≡ None) × (b : Job) × (job_of j C ≡ Some b) × IsMarkOf b mark
Follows (Began j) C = in_cells j C ≡ true
Follows (Closed j) C = in_cells j C ≡ true
Follows _ C = Unit {0}

-- each commit comes after those before it in the host's order
abbrev pub InOrder : List Commit → Type 0
InOrder [] = Unit {0}
InOrder (c ∷ C) = Follows c C × InOrder C
