-- What contracts see of a running node, and of a call of it that answers a result.
use Rattle.std.specs.Prelude.{◌≡◌, Option, None, Result, false, not, is_some}
use Rattle.bench_base.specs.declared.{ledger.Commit.Commit, refusals.Fail.Fail}
use Rattle.nv_model.specs.declared.nv.Nv as nv
use Rattle.node_acts.specs.declared.{act.Act.Act, act.Act.TheVariants.Commits}
use Rattle.node_storage.specs.declared.{node.Node.Ghosts, running.Running.Running}
use Rattle.node_storage.specs.Performed.{Performed}
use Rattle.node_storage.specs.Shown.{CanCommit}

module _ {K S N C R : Type 0} where
  abbrev pub node_of : Running K S N C R → K
  node_of r = r.node

  -- the commit of it that failed
  abbrev pub torn_of : Running K S N C R → Option Commit
  torn_of r = r.torn

  module _ (n : Ghosts K S N C R) where
    -- its record
    abbrev pub seen_of : Running K S N C R → n.Seen
    seen_of r = n.seen r.node

    abbrev pub storage_of : Running K S N C R → S
    storage_of r = n.storage r.node

    -- the record of one that has not failed can take what the act commits
    abbrev pub CanDo : {F A : Type 0} → Act C F A → Running K S N C R → Type 0
    CanDo act r = torn_of r ≡ None → CanCommit n (seen_of r) act

    -- a change that the act commits to one that has not failed is one that can be kept
    abbrev pub KeepsNext : {F A : Type 0} → Act C F A → Running K S N C R → Type 0
    KeepsNext {F} {A} act r = (c : Commit) (x : C) (a : A) → torn_of r ≡ None → act ≡ Commits c x a → n.counting.is_worn (seen_of r) x ≡ false → n.IsStorable x

    module _ (g : nv.Ghosts S) where
      -- it is on until a commit of it has failed
      pub record Runs (r : Running K S N C R) : Type 0 where
        pub on : n.is_on (node_of r) ≡ not (is_some (torn_of r))
        pub size : g.size (storage_of r) ≡ n.bytes

      -- what a call of this act did, answered and left; beside the record a commit leaves all as it was
      pub record Performs {F A : Type 0} (act : Act C F A) (old new : Running K S N C R) (result : Result A (Fail F)) : Type 0 where
        pub performed : Performed g n.counting n.fill n.IsShown storage_of seen_of torn_of act old new result
        pub next : KeepsNext act old
        pub name : n.name (node_of new) ≡ n.name (node_of old)
        pub beside : n.Stays (node_of old) (node_of new)
        pub size : g.size (storage_of new) ≡ n.bytes
