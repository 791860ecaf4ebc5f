-- What a call did, in replies: its refusals are replied and its answers said, and the rest of it stays as it is.
use Rattle.std.proofs.Common.{◌≡◌, ℕ, Option, Some, None, Bool, true, false, not, ◌&&◌, ◌↔◌, if◌then◌else◌, refl, sym, ◌∙◌, ap, subst, true≢false}
use Rattle.std.specs.Prelude.{IfSome}
use Rattle.bench_base.specs.declared.{words.Node.Node, ledger.Commit.Commit, events.Reply.Reply}
use Rattle.nv_model.specs.declared.nv.Nv as nv
use Rattle.nv_store.specs.Turns.{End, Spent}
use Rattle.nv_store.specs.Turns as stored
use Rattle.node_acts.specs.declared.{act.Act.Act, act.Act.TheVariants.Refuse, act.Act.TheVariants.Tell, act.Act.TheVariants.Commits, act.Outcome.Outcome, said.Said.Said}
use Rattle.node_acts.specs.declared.act.Outcome.TheVariants as o
use Rattle.node_acts.specs.Acts.{commit_of, outcome_in, outcome_of, MayCome, MayTear, TellsOf, CommitsSome, CameOf, after_call, cost, has_failed, is_refusal}
use Rattle.node_acts.specs.Said.{saying, planned_commit}
use Rattle.node_acts.specs.Views.{Counting, View}
use Rattle.node_acts.proofs.OfCommits.{said_commit}
use Rattle.node_storage.specs.declared.node.Node.{Ghosts}
use Rattle.node_storage.specs.Ends.{end_of_call, end_of, is_done}
use Rattle.node_storage.specs.Shown.{Allowed, IsAfter, IsNext, IsFitting}
use Rattle.node_storage.specs.Stands.{times_of, meters_of, Stands}
use Rattle.node_storage.specs.Calls.{CallDoes, Wrote}
use Rattle.node_turns.specs.declared.turn.Turn.{Turn}
use Rattle.node_turns.specs.Calling.{commit_in, said_outcome, Called, UsesMade}
use Rattle.node_turns.specs.Turns.{told_turn, call_turn}
use Rattle.node_turns.proofs.Done.{told_is}

module _ {F A : Type 0} (refusal : F → Reply) (say : A → Said) where
  abbrev as_said : {X : Type 0} → Act X F A → Act X Reply Said
  as_said act = saying refusal say act

  abbrev as_told : Outcome F A → Outcome Reply Said
  as_told x = said_outcome refusal say x

  -- == an act ==

  pub planned_says : {X : Type 0} (act : Act X F A) → planned_commit (as_said act) ≡ commit_in act
  planned_says (Refuse x) = refl
  planned_says (Tell a) = refl
  planned_says (Commits c x a) = refl

  cost_says : {X : Type 0} (act : Act X F A) → cost (as_said act) ≡ cost act
  cost_says (Refuse x) = refl
  cost_says (Tell a) = refl
  cost_says (Commits c x a) = refl

  some_says : {X : Type 0} (P : Commit → Type 0) (act : Act X F A) → CommitsSome P act → CommitsSome P (as_said act)
  some_says P (Refuse x) some = some
  some_says P (Tell a) some = some
  some_says P (Commits c x a) some = some

  tells_says : {X : Type 0} (a : A) (act : Act X F A) → TellsOf a act → TellsOf (say a) (as_said act)
  tells_says a (Refuse x) of = of
  tells_says a (Tell b) of = ap say of
  tells_says a (Commits c x b) of = ap say of

  made_says : {S X : Type 0} (n : Counting S X) (v : View S) (act : Act X F A) → commit_of n v (as_said act) ≡ commit_of n v act
  made_says n v (Refuse x) = refl
  made_says n v (Tell a) = refl
  made_says n v (Commits c x a) = refl

  -- == an outcome ==

  either_told : (b : Bool) (x y : Outcome F A) → as_told (if b then x else y) ≡ (if b then as_told x else as_told y)
  either_told true x y = refl
  either_told false x y = refl

  outcome_in_says : {S X : Type 0} (n : Counting S X) (s : S) (act : Act X F A) → as_told (outcome_in n s act) ≡ outcome_in n s (as_said act)
  outcome_in_says n s (Refuse x) = refl
  outcome_in_says n s (Tell a) = refl
  outcome_in_says n s (Commits c x a) = either_told (n.is_worn s x) o.Worn (o.Done a)

  outcome_says : {S X : Type 0} (n : Counting S X) (v : View S) (act : Act X F A) → as_told (outcome_of n v act) ≡ outcome_of n v (as_said act)
  outcome_says n v act = either_told v.on (outcome_in n v.state act) o.Off ∙ ap (λ (x : Outcome Reply Said). if v.on then x else o.Off) (outcome_in_says n v.state act)

  done_told : (x : Outcome F A) → is_done (as_told x) ≡ is_done x
  done_told o.Off = refl
  done_told (o.Refused y) = refl
  done_told (o.Done a) = refl
  done_told o.Worn = refl
  done_told (o.Power c) = refl
  done_told (o.Fault c) = refl

  off_told : {P : Type 0} (x : Outcome F A) → (x ≡ o.Off) ↔ P → (as_told x ≡ o.Off) ↔ P
  off_told o.Off off = (λ e. off.0 refl, λ p. refl)
  off_told (o.Refused y) off = (λ e. cc, λ p. let e = off.1 p in cc)
  off_told (o.Done a) off = (λ e. cc, λ p. let e = off.1 p in cc)
  off_told o.Worn off = (λ e. cc, λ p. let e = off.1 p in cc)
  off_told (o.Power c) off = (λ e. cc, λ p. let e = off.1 p in cc)
  off_told (o.Fault c) off = (λ e. cc, λ p. let e = off.1 p in cc)

  failed_told : (x : Outcome F A) → has_failed (as_told x) ≡ has_failed x
  failed_told o.Off = refl
  failed_told (o.Refused y) = refl
  failed_told (o.Done a) = refl
  failed_told o.Worn = refl
  failed_told (o.Power c) = refl
  failed_told (o.Fault c) = refl

  refusal_told : (x : Outcome F A) → is_refusal (as_told x) ≡ is_refusal x
  refusal_told o.Off = refl
  refusal_told (o.Refused y) = refl
  refusal_told (o.Done a) = refl
  refusal_told o.Worn = refl
  refusal_told (o.Power c) = refl
  refusal_told (o.Fault c) = refl

  end_told : (x : Outcome F A) → end_of (as_told x) ≡ end_of x
  end_told o.Off = refl
  end_told (o.Refused y) = refl
  end_told (o.Done a) = refl
  end_told o.Worn = refl
  end_told (o.Power c) = refl
  end_told (o.Fault c) = refl

  end_call_told : {S : Type 0} (x : Outcome F A) (made : Option (Commit × S)) → end_of_call (as_told x) made ≡ end_of_call x made
  end_call_told o.Off made = refl
  end_call_told (o.Refused y) made = refl
  end_call_told (o.Done a) None = refl
  end_call_told (o.Done a) (Some y) = refl
  end_call_told o.Worn made = refl
  end_call_told (o.Power c) made = refl
  end_call_told (o.Fault c) made = refl

  after_told : {S : Type 0} (x : Outcome F A) (made : Option (Commit × S)) (v : View S) → after_call (as_told x) made v ≡ after_call x made v
  after_told o.Off made v = refl
  after_told (o.Refused y) made v = refl
  after_told (o.Done a) None v = refl
  after_told (o.Done a) (Some y) v = refl
  after_told o.Worn made v = refl
  after_told (o.Power c) None v = refl
  after_told (o.Power c) (Some y) v = refl
  after_told (o.Fault c) None v = refl
  after_told (o.Fault c) (Some y) v = refl

  pub came_told : {X : Type 0} (act : Act X F A) (x : Outcome F A) → CameOf act x → CameOf (as_said act) (as_told x)
  came_told act o.Off came = tt
  came_told act (o.Refused y) came = ap as_said came
  came_told act (o.Done a) came = tells_says a act came
  came_told act o.Worn came = some_says (λ c. Unit {0}) act came
  came_told act (o.Power c) came = some_says (λ made. made ≡ c) act came
  came_told act (o.Fault c) came = some_says (λ made. made ≡ c) act came

  may_told : {S X : Type 0} (n : Counting S X) (v : View S) (act : Act X F A) (x : Outcome F A) → MayCome n v act x → MayCome n v (as_said act) (as_told x)
  may_told n v act o.Off may = ap as_told may ∙ outcome_says n v act
  may_told n v act (o.Refused y) may = ap as_told may ∙ outcome_says n v act
  may_told n v act (o.Done a) may = ap as_told may ∙ outcome_says n v act
  may_told n v act o.Worn may = ap as_told may ∙ outcome_says n v act
  may_told {S} n v act (o.Power c) may = subst (λ (made : Option (Commit × S)). MayTear c made) (sym (made_says n v act)) may
  may_told {S} n v act (o.Fault c) may = subst (λ (made : Option (Commit × S)). MayTear c made) (sym (made_says n v act)) may

  -- how it is reported, by the act of the call, which is this one as said
  pub told_said : {X : Type 0} (IsOf : Turn → Type 0) (m : Node) (act : Act X F A) (by : Act X Reply Said) (x : Outcome F A) → by ≡ as_said act → CameOf act x
      → IsOf (told_turn m (commit_in act) (as_told x)) → IsOf (call_turn m by (as_told x))
  told_said {X} IsOf m act by x made came told =
      told_is IsOf m by (as_told x) (commit_in act) (subst (λ (a : Act X Reply Said). CameOf a (as_told x)) (sym made) (came_told act x came)) (sym (planned_says act) ∙ ap planned_commit (sym made)) told

-- == a call ==

module _ {F A K S N C R : Type 0} (refusal : F → Reply) (n : Ghosts K S N C R) (g : nv.Ghosts S) (say : A → Said) (act : Act C F A) where
  -- the act, said
  abbrev said : Act C Reply Said
  said = saying refusal say act

  -- what holds of the commit of an act holds of the commit of the act that is said
  at_said : (P : Option (Commit × n.Seen) → Type 0) (v : View n.Seen) → P (commit_of n.counting v act) → P (commit_of n.counting v said)
  at_said P v p = subst P (sym (made_says refusal say n.counting v act)) p

  module _ (s t : K) where
    -- what the call came to, said
    abbrev told : Outcome F A → Outcome Reply Said
    told x = said_outcome refusal say x

    says_call : (x : Outcome F A) → CallDoes n g (λ k. act) s t x → CallDoes n g (λ k. said) s t (told x)
    says_call x did = record {
      off = off_told refusal say x did.off;
      leaves = did.leaves ∙ ap (λ (b : Bool). n.is_on s && not b) (sym (failed_told refusal say x));
      comes = λ d v st tells. may_told refusal say n.counting v act x (did.comes d v st tells);
      stands = λ d v st tells fit. at_said (λ made. Stands n g d (after_call (told x) made v) t) v
          (subst (λ (w : View n.Seen). Stands n g d w t) (sym (after_told refusal say x (commit_of n.counting v act) v))
          (did.stands d v st tells (said_commit _ refusal say act fit)));
      turn = λ d v st tells. at_said (λ made. stored.Turn (Allowed n v) (IsAfter n made) (times_of n g s) (times_of n g t) (end_of_call (told x) made)) v
          (subst (λ (e : End). stored.Turn (Allowed n v) (IsAfter n (commit_of n.counting v act)) (times_of n g s) (times_of n g t) e)
          (sym (end_call_told refusal say x (commit_of n.counting v act))) (did.turn d v st tells));
      keeps = λ d v st tells fit. at_said (λ made. IfSome made (λ y. IsNext n d v.state y.1)) v (did.keeps d v st tells (said_commit _ refusal say act fit));
      came = came_told refusal say act x did.came;
      refused = λ is. did.refused (sym (refusal_told refusal say x) ∙ is);
      tells_only = λ none. did.tells_only (λ some. none (some_says refusal say (λ c. Unit {0}) act some));
      spent = subst (λ (calls : ℕ). Spent calls (meters_of n g s) (meters_of n g t) (end_of (told x))) (sym (cost_says refusal say act))
          (subst (λ (e : End). Spent (cost act) (meters_of n g s) (meters_of n g t) e) (sym (end_told refusal say x)) did.spent);
    }

    -- the commit of an act that was made used what its storage says
    wrote_uses : (made : Act C F A) (x : Outcome F A) → Wrote n g made s t x → UsesMade (saying refusal say made) (told x) (meters_of n g s) (meters_of n g t)
    wrote_uses (Refuse y) x wrote = tt
    wrote_uses (Tell a) x wrote = tt
    wrote_uses (Commits c y a) x wrote = λ done. wrote.calls (sym (done_told refusal say x) ∙ done)

-- == a call, by the act of the record ==

module _ {K S N C R : Type 0} (n : Ghosts K S N C R) (g : nv.Ghosts S) (by : n.Seen → Act C Reply Said) (act : Act C Reply Said) (s t : K) (on : n.is_on s ≡ true) (is : by (n.seen s) ≡ act) where
  -- a node that is on has the record of each view that it represents
  same_act : (d : N) (v : View n.Seen) → Stands n g d v s → g.tells → act ≡ by v.state
  same_act d v st tells = sym is ∙ ap by ((st.runs (sym st.on ∙ on)).seen tells)

  by_record : (x : Outcome Reply Said) → CallDoes n g (λ k. act) s t x → CallDoes n g by s t x
  by_record x did = record {
    off = did.off;
    leaves = did.leaves;
    comes = λ d v st tells. subst (λ (a : Act C Reply Said). MayCome n.counting v a x) (same_act d v st tells) (did.comes d v st tells);
    stands = λ d v st tells fit. subst (λ (a : Act C Reply Said). Stands n g d (after_call x (commit_of n.counting v a) v) t) (same_act d v st tells)
        (did.stands d v st tells (subst (λ (a : Act C Reply Said). IsFitting n d v.state a) (sym (same_act d v st tells)) fit));
    turn = λ d v st tells. subst (λ (a : Act C Reply Said). stored.Turn (Allowed n v) (IsAfter n (commit_of n.counting v a)) (times_of n g s) (times_of n g t) (end_of_call x (commit_of n.counting v a)))
        (same_act d v st tells) (did.turn d v st tells);
    keeps = λ d v st tells fit. subst (λ (a : Act C Reply Said). IfSome (commit_of n.counting v a) (λ y. IsNext n d v.state y.1)) (same_act d v st tells)
        (did.keeps d v st tells (subst (λ (a : Act C Reply Said). IsFitting n d v.state a) (sym (same_act d v st tells)) fit));
    came = subst (λ (a : Act C Reply Said). CameOf a x) (sym is) did.came;
    refused = did.refused;
    tells_only = λ none. did.tells_only (λ some. none (subst (λ (a : Act C Reply Said). CommitsSome (λ c. Unit {0}) a) (sym is) some));
    spent = subst (λ (a : Act C Reply Said). Spent (cost a) (meters_of n g s) (meters_of n g t) (end_of x)) (sym is) did.spent;
  }

-- what was performed of an act, by the record of the node: where its answers are said, this is the act of the record
pub says_called : {F A K S N C R : Type 0} (refusal : F → Reply) (say : A → Said) (n : Ghosts K S N C R) (g : nv.Ghosts S) (by : n.Seen → Act C Reply Said) (s t : K) (on : n.is_on s ≡ true) (act : Act C F A)
    → by (n.seen s) ≡ saying refusal say act → (x : Outcome F A) → CallDoes n g (λ k. act) s t x → Wrote n g act s t x → Called n g by s t (said_outcome refusal say x)
says_called {C = C} refusal say n g by s t on act is x did wrote = record {
  does = by_record n g by (saying refusal say act) s t on is (said_outcome refusal say x) (says_call refusal n g say act s t x did);
  uses = subst (λ (a : Act C Reply Said). UsesMade a (said_outcome refusal say x) (meters_of n g s) (meters_of n g t)) (sym is) (wrote_uses refusal n g say act s t act x wrote);
}

-- a node that is off was not asked for a commit
pub off_called : {K S N C R : Type 0} (n : Ghosts K S N C R) (g : nv.Ghosts S) (act : n.Seen → Act C Reply Said) (s : K) → CallDoes n g act s s o.Off → Called n g act s s o.Off
off_called {C = C} n g act s did = record { does = did; uses = none (act (n.seen s)) }
  where
    none : (a : Act C Reply Said) → UsesMade a o.Off (meters_of n g s) (meters_of n g s)
    none (Refuse x) = tt
    none (Tell a) = tt
    none (Commits c x a) = λ done. absurd (true≢false (sym done))
