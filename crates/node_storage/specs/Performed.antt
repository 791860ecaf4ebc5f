-- A call that answers a result, of a value that keeps a node and the commit of it that failed.
use Rattle.std.specs.Prelude.{◌≡◌, ◌≢◌, List, ℕ, Option, Some, None, Result, Ok, Err, is_ok}
use Rattle.bench_base.specs.declared.{ledger.Commit.Commit, refusals.Fail.Fail, refusals.Fail.TheVariants.Refused, refusals.Fail.TheVariants.Store, refusals.StoreFail.TheVariants.Power, refusals.StoreFail.TheVariants.Fault, refusals.StoreFail.TheVariants.Worn, refusals.StoreFail.TheVariants.Failed}
use Rattle.nv_model.specs.declared.nv.Nv as nv
use Rattle.nv_store.specs.Fills.{Fill}
use Rattle.nv_store.specs.Turns.{End, Turn}
use Rattle.node_acts.specs.declared.act.Act.{Act}
use Rattle.node_acts.specs.Acts.{OfCommit, commit_in, cost}
use Rattle.node_acts.specs.Results.{result_in}
use Rattle.node_acts.specs.Views.{Counting}
use Rattle.node_storage.specs.Does.{Spends, Writes}
use Rattle.node_storage.specs.Ends.{begins_to_write, end_of_result}

-- the record after the commit that was made
abbrev pub seen_with : {S : Type 0} → Option (Commit × S) → S → S
seen_with None s = s
seen_with (Some x) s = x.1

-- Values T over storages S: how their records count, how they are written, and how they are shown. For each value there are
-- its storage, its record, and its commit that failed, if one did. The act of a call is given.
module _ {T S R X : Type 0} (g : nv.Ghosts S) (n : Counting R X) (fill : R → X → Fill) (IsShown : R → List ℕ → Type 0) (storage : T → S) (seen : T → R)
    (torn : T → Option Commit) {F A : Type 0} (act : Act X F A) where
  -- the commit of the act, with the record that it makes
  abbrev pub commit_from : T → Option (Commit × R)
  commit_from old = commit_in n (seen old) act

  -- how the call ended for the storage
  abbrev pub end_from : T → Result A (Fail F) → End
  end_from old result = end_of_result result (commit_from old)

  -- the images that show the commit too
  abbrev pub ShowsAfter : Option (Commit × R) → List ℕ → Type 0
  ShowsAfter None image = ⊥
  ShowsAfter (Some x) image = IsShown x.1 image

  -- the commit, if there is one, is the one that failed, and the record stays
  abbrev pub Tore : Option (Commit × R) → T → T → Type 0
  Tore None old new = ⊥
  Tore (Some x) old new = (torn new ≡ Some x.0) × (seen new ≡ seen old)

  -- it answers what the act does, and has the record after its commit
  pub record Did (old new : T) (result : Result A (Fail F)) : Type 0 where
    pub answer : result ≡ result_in n (seen old) act
    pub works : torn new ≡ None
    pub after : seen new ≡ seen_with (commit_from old) (seen old)

  -- what it answered and left in a value that had not failed
  abbrev pub Does : T → T → Result A (Fail F) → Type 0
  Does old new (Err (Store Power)) = Tore (commit_from old) old new
  Does old new (Err (Store Fault)) = Tore (commit_from old) old new
  Does old new (Err (Store Worn)) = Did old new (Err (Store Worn))
  Does old new (Err (Store Failed)) = ⊥
  Does old new (Err (Refused x)) = Did old new (Err (Refused x))
  Does old new (Ok a) = Did old new (Ok a)

  -- what a call of a value that had not failed wrote: if it commits, the next slot of the cell, whole once it is done
  abbrev pub Wrote : T → T → Result A (Fail F) → Type 0
  Wrote old new result = OfCommit (λ c x. Writes g (fill (seen old) x) (storage old) (storage new) (begins_to_write result) (is_ok result)) act

  -- What the call did, answered and left. Once a commit of a value failed, the value answers `Failed` to each call and
  -- stays as it is. A call that commits nothing leaves the value and its storage as they were.
  pub record Performed (old new : T) (result : Result A (Fail F)) : Type 0 where
    pub failed : torn old ≢ None → (result ≡ Err (Store Failed)) × (new ≡ old)
    pub does : torn old ≡ None → Does old new result
    pub turn : torn old ≡ None → g.tells
        → Turn (IsShown (seen old)) (ShowsAfter (commit_from old)) (g.times (storage old)) (g.times (storage new)) (end_from old result)
    pub spent : torn old ≡ None → Spends g (cost act) (storage old) (storage new) (end_from old result)
    pub wrote : torn old ≡ None → Wrote old new result
    pub rests : commit_from old ≡ None → new ≡ old
