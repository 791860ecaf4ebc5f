-- A call of a node, by what it does where its storage does not fail: its act.
use Rattle.std.specs.Prelude.{◌≡◌, ℕ, Bool, true, false, Option, Some, None, if◌then◌else◌}
use Rattle.bench_base.specs.declared.ledger.Commit.{Commit}
use Rattle.node_acts.specs.declared.{act.Act.Act, act.Act.TheVariants.Refuse, act.Act.TheVariants.Tell, act.Act.TheVariants.Commits, act.Outcome.Outcome}
use Rattle.node_acts.specs.declared.act.Outcome.TheVariants as o
use Rattle.node_acts.specs.Views.{Counting, View, committed, torn}

-- a call uses at most so many calls of an armed fuse: six for a commit, and otherwise none
abbrev pub cost : {X F A : Type 0} → Act X F A → ℕ
cost (Refuse x) = 0
cost (Tell a) = 0
cost (Commits c x a) = 6

-- == what it came to ==

-- whether the node is off after it
abbrev pub has_failed : {F A : Type 0} → Outcome F A → Bool
has_failed o.Off = false
has_failed (o.Refused x) = false
has_failed (o.Done a) = false
has_failed o.Worn = false
has_failed (o.Power c) = true
has_failed (o.Fault c) = true

-- the node did nothing: it was off, it refused, or the cell has all its commits
abbrev pub is_refusal : {F A : Type 0} → Outcome F A → Bool
is_refusal o.Off = true
is_refusal (o.Refused x) = true
is_refusal (o.Done a) = false
is_refusal o.Worn = true
is_refusal (o.Power c) = false
is_refusal (o.Fault c) = false

-- the node after the call, which makes this commit if it makes one
abbrev pub after_call : {S F A : Type 0} → Outcome F A → Option (Commit × S) → View S → View S
after_call (o.Power c) (Some x) v = torn x.1 v
after_call (o.Fault c) (Some x) v = torn x.1 v
after_call (o.Done a) (Some x) v = committed x.1 v
after_call _ _ v = v

-- it may fail in its commit
abbrev pub MayTear : {S : Type 0} → Commit → Option (Commit × S) → Type 0
MayTear {S} c made = (s : S) × (made ≡ Some (c, s))

-- == whether or not the storage exposes its contents ==

-- the act answers this, with a commit or without
abbrev pub TellsOf : {X F A : Type 0} → A → Act X F A → Type 0
TellsOf a (Refuse x) = ⊥
TellsOf a (Tell b) = b ≡ a
TellsOf a (Commits c x b) = b ≡ a

-- the act commits something that P holds of
abbrev pub CommitsSome : {X F A : Type 0} → (Commit → Type 0) → Act X F A → Type 0
CommitsSome P (Refuse x) = ⊥
CommitsSome P (Tell a) = ⊥
CommitsSome P (Commits c x a) = P c

-- P holds of what the act commits and of the change that it makes, if it commits
abbrev pub OfCommit : {X F A : Type 0} → (Commit → X → Type 0) → Act X F A → Type 0
OfCommit P (Refuse x) = Unit {0}
OfCommit P (Tell a) = Unit {0}
OfCommit P (Commits c x a) = P c x

-- what a call of this act may come to at all: an act that commits nothing never fails
abbrev pub CameOf : {X F A : Type 0} → Act X F A → Outcome F A → Type 0
CameOf act o.Off = Unit {0}
CameOf act (o.Refused x) = act ≡ Refuse x
CameOf act (o.Done a) = TellsOf a act
CameOf act o.Worn = CommitsSome (λ c. Unit {0}) act
CameOf act (o.Power c) = CommitsSome (λ made. made ≡ c) act
CameOf act (o.Fault c) = CommitsSome (λ made. made ≡ c) act

module _ {S X : Type 0} (n : Counting S X) {F A : Type 0} where
  -- it would commit to a cell that has all its commits
  abbrev pub is_full : S → Act X F A → Bool
  is_full s (Refuse x) = false
  is_full s (Tell a) = false
  is_full s (Commits c x a) = n.is_worn s x

  -- the commit of an act, with the record that it makes; none where its cell has all its commits
  abbrev pub commit_in : S → Act X F A → Option (Commit × S)
  commit_in s (Refuse x) = None
  commit_in s (Tell a) = None
  commit_in s (Commits c x a) = if n.is_worn s x then None else Some (c, n.after s x)

  -- what the call of a node that is on comes to where the storage does not fail
  abbrev pub outcome_in : S → Act X F A → Outcome F A
  outcome_in s (Refuse x) = o.Refused x
  outcome_in s (Tell a) = o.Done a
  outcome_in s (Commits c x a) = if n.is_worn s x then o.Worn else o.Done a

  -- the commit that the call makes
  abbrev pub commit_of : View S → Act X F A → Option (Commit × S)
  commit_of v act = if v.on then commit_in v.state act else None

  -- what the call comes to where the storage does not fail
  abbrev pub outcome_of : View S → Act X F A → Outcome F A
  outcome_of v act = if v.on then outcome_in v.state act else o.Off

  -- what the call may come to
  abbrev pub MayCome : View S → Act X F A → Outcome F A → Type 0
  MayCome v act (o.Power c) = MayTear c (commit_of v act)
  MayCome v act (o.Fault c) = MayTear c (commit_of v act)
  MayCome v act x = x ≡ outcome_of v act
