-- What holds of the acts of all books: they leave sound books, and are by the books of some commits what they are by these.
use Rattle.std.specs.Prelude.{◌≡◌, ℕ, Bool, List, [], ◌∷◌}
use Rattle.bench_base.specs.Nodes.{node_of}
use Rattle.bench_base.specs.Ranges.{IsDevice, IsCustomer, IsWord}
use Rattle.bench_base.specs.Table.{IsBytes}
use Rattle.bench_base.specs.declared.{words.Node.TheVariants.Centre, ledger.Commit.Commit}
use Rattle.node_acts.specs.Acts.{OfCommit}
use Rattle.node_acts.specs.declared.act.Act.{Act}
use Rattle.centre_ledger.specs.declared.rows.Row.{Row}
use Rattle.centre_ledger.specs.Acts.{CentreAct, in_books, open_act, flag_act, deposit_act, balance_act, register_act, standing_act, take_act}
use Rattle.centre_ledger.specs.Books.{Books, device_at, customer_at, no_rows, put_row, AreSound}
use Rattle.centre_ledger.specs.Laws.{IsSlotOf, IsCustomerSlotOf}
use Rattle.centre_ledger.specs.Order.{InOrder}
use Rattle.centre_ledger.specs.Plans.{in_commits}

-- == the rows stay sound ==

-- where the act commits a row, the commit is the centre's, and the books with the row are sound
abbrev pub LeavesSound : {F A : Type 0} → Books → Act Row F A → Type 0
LeavesSound b = OfCommit (λ c x. AreSound (put_row b x) × (node_of c ≡ Centre))

pub record SoundActs (b : Books) : Type 0 where
  pub registered : (d origin : ℕ) (key : List ℕ) → IsDevice d → IsWord origin → LeavesSound b (register_act d origin key b)
  pub opened : (w : ℕ) → IsCustomer w → LeavesSound b (open_act w b)
  pub flagged : (w : ℕ) (flag : Bool) → LeavesSound b (flag_act w flag b)
  pub deposited : (w receipt amount : ℕ) → LeavesSound b (deposit_act w receipt amount b)
  pub balanced : (w : ℕ) → LeavesSound b (balance_act w b)
  pub stood : (d : ℕ) → LeavesSound b (standing_act d b)
  pub taken : (bytes : List ℕ) → IsBytes bytes → LeavesSound b (take_act bytes b)

abbrev pub ActsLeaveSound : Type 0
ActsLeaveSound = (b : Books) → AreSound b → SoundActs b

-- == the rows of commits ==

-- these are the rows of the commits, which come in the centre's order
pub record AreBooksOf (b : Books) (C : List Commit) : Type 0 where
  pub order : InOrder C
  pub devices : (d : ℕ) → IsSlotOf (device_at b d) d C
  pub customers : (w : ℕ) → IsCustomerSlotOf (customer_at b w) w C

-- where the act commits a row, the books with it are those of the commits and that one
abbrev pub FollowsCommits : {A : Type 0} → Books → List Commit → CentreAct A → Type 0
FollowsCommits b C = OfCommit (λ c x. AreBooksOf (put_row b x) (c ∷ C))

pub record FollowingActs (b : Books) (C : List Commit) : Type 0 where
  pub registered : (d origin : ℕ) (key : List ℕ) → IsDevice d → FollowsCommits b C (register_act d origin key b)
  pub opened : (w : ℕ) → IsCustomer w → FollowsCommits b C (open_act w b)
  pub flagged : (w : ℕ) (flag : Bool) → FollowsCommits b C (flag_act w flag b)
  pub deposited : (w receipt amount : ℕ) → FollowsCommits b C (deposit_act w receipt amount b)
  pub taken : (bytes : List ℕ) → IsBytes bytes → FollowsCommits b C (take_act bytes b)

pub record ActsFollow : Type 0 where
  -- at the start there are no rows
  pub none : AreBooksOf no_rows []
  pub each : (b : Books) (C : List Commit) → AreSound b → AreBooksOf b C → FollowingActs b C

-- == what is looked up ==

-- What these books show is what the commits show. So each act by these books is the one by the commits, and the ledger's
-- plan is read off that one.
abbrev pub ActsArePlanned : Type 0
ActsArePlanned = (b : Books) (C : List Commit) → AreSound b → AreBooksOf b C → in_books b ≡ in_commits C
