-- What the storage of a node may show, by what the bench sees of it.
use Rattle.std.specs.Prelude.{◌≡◌, ◌⊎◌, ℕ, ◌+◌, List, Option, Some, None, IfSome}
use Rattle.bench_base.specs.declared.ledger.Commit.{Commit}
use Rattle.node_acts.specs.declared.{act.Act.Act, act.Act.TheVariants.Commits}
use Rattle.node_acts.specs.Views.{View}
use Rattle.node_acts.specs.Acts.{OfCommit}
use Rattle.node_storage.specs.declared.node.Node.{Ghosts}

module _ {K S N C R : Type 0} (n : Ghosts K S N C R) where
  -- an image that shows this record, if there is one
  abbrev pub ShowsNext : Option n.Seen → List ℕ → Type 0
  ShowsNext None image = ⊥
  ShowsNext (Some s) image = n.IsShown s image

  -- the images that its storage may have: they show its commits that count, or these and the open one
  abbrev pub Allowed : View n.Seen → List ℕ → Type 0
  Allowed v image = n.IsShown v.state image ⊎ ShowsNext v.next image

  -- the images that show the commit too
  abbrev pub IsAfter : Option (Commit × n.Seen) → List ℕ → Type 0
  IsAfter None image = ⊥
  IsAfter (Some x) image = n.IsShown x.1 image

  -- what a node d that storage can show looks like
  pub record Sound (d : N) (v : View n.Seen) : Type 0 where
    pub state : n.IsSound d v.state
    pub next : IfSome v.next (n.IsSound d)
    pub more : IfSome v.next (λ s. n.counting.count s ≡ n.counting.count v.state + 1)

  -- the record after a commit of node d with this record
  abbrev pub IsNext : N → n.Seen → n.Seen → Type 0
  IsNext d s next = n.IsSound d next × (n.counting.count next ≡ n.counting.count s + 1)

  -- the record can take what the act commits, if it commits
  abbrev pub CanCommit : {F A : Type 0} → n.Seen → Act C F A → Type 0
  CanCommit {F} {A} s act = (c : Commit) (x : C) (a : A) → act ≡ Commits c x a → n.IsFit s x

  -- a change of the act is one of node d and this record
  abbrev pub IsFitting : {F A : Type 0} → N → n.Seen → Act C F A → Type 0
  IsFitting d s = OfCommit (λ c x. n.IsFrom d s x)
