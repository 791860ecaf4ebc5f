-- A call of a node, by its act: the ledger's plan is what is seen of the node, where the act's commit is the node's own.
use Rattle.std.proofs.Common.{◌≡◌, List, Option, Some, true, false, refl, ap₂, subst}
use Rattle.std.specs.Prelude.{IfSome}
use Rattle.bench_base.specs.declared.{words.Node.Node, ledger.Commit.Commit, ledger.Entry.Entry, events.Reply.Reply}
use Rattle.bench_base.specs.Plans.{made, told}
use Rattle.bench_base.specs.Cells.{is_worn}
use Rattle.bench_base.specs.Ledger.{Ledger, is_on, counted}
use Rattle.node_acts.specs.declared.{act.Act.Act, act.Act.TheVariants.Refuse, act.Act.TheVariants.Tell, act.Act.TheVariants.Commits, said.Said.Said}
use Rattle.node_acts.specs.Acts.{commit_of, OfCommit}
use Rattle.node_acts.specs.Kinds.{view_in}
use Rattle.node_acts.specs.Plans.{plan_of, IsOfNode}
use Rattle.node_acts.specs.Said.{tells, saying, said_plan, seen_plan}
use Rattle.node_acts.specs.Views.{Counting}
use Rattle.ledger_moves.specs.Moves.{at_node}

-- the plan of an act is that of the act that says its answers, where these say the same
pub plan_says : {X F A : Type 0} (refusal : F → Reply) (reply : A → Reply) (tell : A → List Entry) (say : A → Said) → ((a : A) → reply a ≡ (say a).reply)
    → ((a : A) → tell a ≡ tells (say a)) → (act : Act X F A) → plan_of refusal reply tell act ≡ said_plan (saying refusal say act)
plan_says refusal reply tell say reply_is tell_is (Refuse x) = refl
plan_says refusal reply tell say reply_is tell_is (Tell a) = ap₂ (λ (y : Reply) (l : List Entry). told y l) (reply_is a) (tell_is a)
plan_says refusal reply tell say reply_is tell_is (Commits c x a) = ap₂ (λ (y : Reply) (l : List Entry). made y c l) (reply_is a) (tell_is a)

module _ {S X : Type 0} (n : Counting S X) (m : Node) (seen : List Commit → S) (H : Ledger) where
  -- the cell of its commit is worn where it is seen to be
  abbrev pub IsWornAlike : {F A : Type 0} → Act X F A → Type 0
  IsWornAlike = OfCommit (λ c x. is_worn c (counted H) ≡ n.is_worn (seen (counted H)) x)

  pub at_seen : (act : Act X Reply Said) → IsOfNode m act → IsWornAlike act → at_node m H (said_plan act) ≡ seen_plan n m (view_in m seen H) act
  at_seen (Refuse x) own alike = refl
  at_seen (Tell a) own alike = refl
  at_seen (Commits c x a) own alike = rw (alike, own) refl

  -- the commit of a node that is on, where its cell is not worn
  pub commit_made : (c : Commit) (x : X) (a : Said) → is_on m H ≡ true → n.is_worn (seen (counted H)) x ≡ false
      → commit_of n {F = Reply} (view_in m seen H) (Commits c x a) ≡ Some (c, n.after (seen (counted H)) x)
  commit_made c x a on fresh = rw (on, fresh) refl

  pub plan_made : (c : Commit) (x : X) (a : Said) → is_on m H ≡ true → n.is_worn (seen (counted H)) x ≡ false
      → (seen_plan n m (view_in m seen H) (Commits c x a)).commit ≡ Some c
  plan_made c x a on fresh = rw (on, fresh) refl

  -- what is known of the commit that an act makes: P of it and the record after it, where it is made
  abbrev pub IsMade : {F A : Type 0} → (Commit → S → Type 0) → Act X F A → Type 0
  IsMade P = OfCommit (λ c x. is_on m H ≡ true → n.is_worn (seen (counted H)) x ≡ false → P c (n.after (seen (counted H)) x))

  -- so where the plan's commit and the record after it are known
  pub made_by : (P : Commit → Type 0) (Q : S → Type 0) (act : Act X Reply Said) → ((c : Commit) → (seen_plan n m (view_in m seen H) act).commit ≡ Some c → P c)
      → IfSome (commit_of n (view_in m seen H) act) (λ x. Q x.1) → IsMade (λ c s. P c × Q s) act
  made_by P Q (Refuse x) planned known = tt
  made_by P Q (Tell a) planned known = tt
  made_by P Q (Commits c x a) planned known = λ on fresh. (
    planned c (plan_made c x a on fresh),
    subst (λ (o : Option (Commit × S)). IfSome o (λ y. Q y.1)) (commit_made c x a on fresh) known,
  )
