-- What holds of an act where it says its answers so, and of the record that its commit leaves.
use Rattle.std.proofs.Common.{◌≡◌, Option, Some, None, Bool, true, false, if◌then◌else◌, refl}
use Rattle.std.specs.Prelude.{IfSome}
use Rattle.bench_base.specs.declared.{ledger.Commit.Commit, events.Reply.Reply}
use Rattle.bench_base.specs.Replies.{Did, Refused, class_of}
use Rattle.node_acts.specs.declared.{act.Act.Act, act.Act.TheVariants.Refuse, act.Act.TheVariants.Tell, act.Act.TheVariants.Commits, said.Said.Said}
use Rattle.node_acts.specs.Acts.{commit_in, commit_of, OfCommit}
use Rattle.node_acts.specs.Said.{IsPlain, saying}
use Rattle.node_acts.specs.Views.{Counting, View}

module _ {X F A : Type 0} (refusal : F → Reply) (say : A → Said) where
  pub plain_says : ((x : F) → class_of (refusal x) ≡ Refused) → ((a : A) → class_of (say a).reply ≡ Did) → (act : Act X F A) → IsPlain (saying refusal say act)
  plain_says refuses says (Refuse x) = refuses x
  plain_says refuses says (Tell a) = says a
  plain_says refuses says (Commits c x a) = says a

-- the record after the commit is known to be this, where the record with each change that its cell has room for is
module _ {S X : Type 0} (n : Counting S X) (Known : S → Type 0) where
  made_known : (s : S) (c : Commit) (x : X) (worn : Bool) → (worn ≡ false → Known (n.after s x)) → IfSome {T = Commit × S} (if worn then None else Some (c, n.after s x)) (λ y. Known y.1)
  made_known s c x true known = tt
  made_known s c x false known = known refl

  done_known : (s : S) (act : Act X Reply Said) → OfCommit (λ c x. n.is_worn s x ≡ false → Known (n.after s x)) act → IfSome (commit_in n s act) (λ y. Known y.1)
  done_known s (Refuse x) known = tt
  done_known s (Tell a) known = tt
  done_known s (Commits c x a) known = made_known s c x (n.is_worn s x) known

  on_known : (on : Bool) (o : Option (Commit × S)) → IfSome o (λ y. Known y.1) → IfSome (if on then o else None) (λ y. Known y.1)
  on_known true o known = known
  on_known false o known = tt

  pub commit_known : (v : View S) (act : Act X Reply Said) → OfCommit (λ c x. n.is_worn v.state x ≡ false → Known (n.after v.state x)) act → IfSome (commit_of n v act) (λ y. Known y.1)
  commit_known v act known = on_known v.on (commit_in n v.state act) (done_known v.state act known)
