-- What a call of a node leaves.
use Rattle.std.proofs.Common.{◌≡◌, ◌⊎◌, inl, inr, ⊎_elim, ℕ, ◌+◌, List, Option, Some, None, Bool, true, false, not, ◌&&◌, if◌then◌else◌, refl, sym, ◌∙◌, ap, subst}
use Rattle.std.specs.Prelude.{IfSome}
use Rattle.std.proofs.lemmas.Bool.{and_left}
use Rattle.bench_base.specs.declared.ledger.Commit.{Commit}
use Rattle.nv_model.specs.declared.nv.Nv as nv
use Rattle.nv_model.specs.Moments.{Image, Nested, Elapses}
use Rattle.nv_model.specs.Meters.{Meters}
use Rattle.nv_store.specs.Turns.{End, Kept, Made, Cut, Faulted, Turn, Spent}
use Rattle.node_acts.specs.declared.{act.Act.Act, act.Act.TheVariants.Refuse, act.Act.TheVariants.Tell, act.Act.TheVariants.Commits, act.Outcome.Outcome}
use Rattle.node_acts.specs.declared.act.Outcome.TheVariants as o
use Rattle.node_acts.specs.Acts.{commit_in, commit_of, outcome_in, outcome_of, MayCome, TellsOf, CommitsSome, CameOf, after_call, cost, has_failed}
use Rattle.node_acts.specs.Views.{View, torn}
use Rattle.node_storage.specs.declared.node.Node.{Ghosts}
use Rattle.node_storage.specs.Ends.{end_of_call, end_of}
use Rattle.node_storage.specs.Shown.{Allowed, IsAfter, IsNext, IsFitting}
use Rattle.node_storage.specs.Stands.{Stands}
use Rattle.node_storage.specs.Calls.{CallDoes}
use Rattle.node_storage.proofs.Rests.{spent_none, turn_none}

spent_kept : (calls : ℕ) (m m' : Meters) → Spent calls m m' Made → Spent calls m m' Kept
spent_kept calls m m' s = record { cuts = s.cuts; faults = s.faults; fuse = s.fuse; power = λ e. cc; fault = λ e. cc }

pub if_true : {X : Type 0} (b : Bool) (x y : X) → b ≡ true → (if b then x else y) ≡ x
if_true true x y is = refl
if_true false x y is = cc

pub if_false : {X : Type 0} (b : Bool) (x y : X) → b ≡ false → (if b then x else y) ≡ y
if_false true x y is = cc
if_false false x y is = refl

both_of : (b x : Bool) → b ≡ true → (b && x) ≡ x
both_of true x is = refl
both_of false x is = cc

true_not_false : (b : Bool) → b ≡ true → b ≡ false → ⊥
true_not_false true is isnt = cc
true_not_false false is isnt = cc

module _ {K S N C R : Type 0} (n : Ghosts K S N C R) (g : nv.Ghosts S) {F A : Type 0} (act : n.Seen → Act C F A) where
  -- the call of a node that is off
  pub off_call : (k : K) → n.is_on k ≡ false → CallDoes n g act k k o.Off
  off_call k off = record {
    off = (λ e. off, λ e. refl);
    leaves = off ∙ sym (and_left (n.is_on k) true off);
    comes = λ d v st tells. sym (if_false v.on (outcome_in n.counting v.state (act v.state)) o.Off (sym st.on ∙ off));
    stands = λ d v st tells fit. st;
    turn = λ d v st tells.
        subst (λ (m : Option (Commit × n.Seen)). Turn (Allowed n v) (IsAfter n m) (g.times (n.storage k)) (g.times (n.storage k)) (end_of_call {F = F} {A = A} o.Off m)) (sym (none v (sym st.on ∙ off)))
        (turn_none _ _ _ (λ c is. st.store.shows tells c is));
    keeps = λ d v st tells fit. subst (λ (m : Option (Commit × n.Seen)). IfSome m (λ x. IsNext n d v.state x.1)) (sym (none v (sym st.on ∙ off))) tt;
    came = tt;
    refused = λ is. refl;
    tells_only = λ none. refl;
    spent = spent_none (cost (act (n.seen k))) (g.meters (n.storage k));
  }
    where
      none : (v : View n.Seen) → v.on ≡ false → commit_of n.counting v (act v.state) ≡ None
      none v is = if_false v.on (commit_in n.counting v.state (act v.state)) None is

  -- what the bench sees of a node that is on is its record
  seen_of : (d : N) (v : View n.Seen) (k : K) → Stands n g d v k → n.is_on k ≡ true → g.tells → n.seen k ≡ v.state
  seen_of d v k st on tells = (st.runs (sym st.on ∙ on)).seen tells

  -- a call that commits nothing, of a node that is on
  quiet : (x : Outcome F A) (k k' : K) → k' ≡ k → n.is_on k ≡ true → (x ≡ o.Off → ⊥) → has_failed x ≡ false → end_of x ≡ Kept
      → ((v : View n.Seen) → after_call x None v ≡ v) → end_of_call {S = n.Seen} x None ≡ Kept
      → commit_in n.counting (n.seen k) (act (n.seen k)) ≡ None → ((v : View n.Seen) → v.on ≡ true → n.seen k ≡ v.state → MayCome n.counting v (act v.state) x)
      → CameOf (act (n.seen k)) x → CallDoes n g act k k' x
  quiet x k k' same on not_off fails ends after ended none may came = subst (λ (j : K). CallDoes n g act k j x) (sym same) (record {
    off = (λ e. absurd (not_off e), λ e. absurd (true_not_false (n.is_on k) on e));
    leaves = leaves;
    comes = λ d v st tells. may v (sym st.on ∙ on) (seen_of d v k st on tells);
    stands = λ d v st tells fit.
        subst (λ (m : Option (Commit × n.Seen)). Stands n g d (after_call x m v) k) (sym (none_of d v st tells)) (subst (λ (w : View n.Seen). Stands n g d w k) (sym (after v)) st);
    turn = λ d v st tells.
        subst (λ (m : Option (Commit × n.Seen)). Turn (Allowed n v) (IsAfter n m) (g.times (n.storage k)) (g.times (n.storage k)) (end_of_call x m)) (sym (none_of d v st tells))
        (subst (λ (e : End). Turn (Allowed n v) (IsAfter n None) (g.times (n.storage k)) (g.times (n.storage k)) e) (sym ended)
        (turn_none _ _ _ (λ c is. st.store.shows tells c is)));
    keeps = λ d v st tells fit. subst (λ (m : Option (Commit × n.Seen)). IfSome m (λ y. IsNext n d v.state y.1)) (sym (none_of d v st tells)) tt;
    came = came;
    refused = λ is. refl;
    tells_only = λ none. refl;
    spent = subst (λ (e : End). Spent (cost (act (n.seen k))) (g.meters (n.storage k)) (g.meters (n.storage k)) e) (sym ends) (spent_none (cost (act (n.seen k))) (g.meters (n.storage k)));
  })
    where
      none_of : (d : N) (v : View n.Seen) → Stands n g d v k → g.tells → commit_of n.counting v (act v.state) ≡ None
      none_of d v st tells = if_true v.on _ None (sym st.on ∙ on)
          ∙ subst (λ (s : n.Seen). commit_in n.counting s (act s) ≡ None) (seen_of d v k st on tells) none

      leaves : n.is_on k ≡ (n.is_on k && not (has_failed x))
      leaves = on ∙ sym (both_of (n.is_on k) (not (has_failed x)) on ∙ ap not fails)

  -- what a view says of the act that the node's record decides on
  may_be : (x : Outcome F A) (k : K) (v : View n.Seen) → v.on ≡ true → n.seen k ≡ v.state → x ≡ outcome_in n.counting (n.seen k) (act (n.seen k)) → x ≡ outcome_of n.counting v (act v.state)
  may_be x k v on seen is = is ∙ ap (λ (s : n.Seen). outcome_in n.counting s (act s)) seen ∙ sym (if_true v.on (outcome_in n.counting v.state (act v.state)) o.Off on)

  pub refuses : (x : F) (k : K) → act (n.seen k) ≡ Refuse x → n.is_on k ≡ true → CallDoes n g act k k (o.Refused x)
  refuses x k is on = quiet (o.Refused x) k k refl on (λ e. cc) refl refl (λ v. refl) refl
      (ap (commit_in n.counting (n.seen k)) is) (λ v is_on seen. may_be (o.Refused x) k v is_on seen (sym (ap (outcome_in n.counting (n.seen k)) is))) is

  pub tells_only : (a : A) (k : K) → act (n.seen k) ≡ Tell a → n.is_on k ≡ true → CallDoes n g act k k (o.Done a)
  tells_only a k is on = quiet (o.Done a) k k refl on (λ e. cc) refl refl (λ v. refl) refl
      (ap (commit_in n.counting (n.seen k)) is) (λ v is_on seen. may_be (o.Done a) k v is_on seen (sym (ap (outcome_in n.counting (n.seen k)) is)))
      (subst (λ (b : Act C F A). TellsOf a b) (sym is) refl)

  -- a commit
  module _ (c : Commit) (x : C) (a : A) (k k' : K) (is : act (n.seen k) ≡ Commits c x a) (on : n.is_on k ≡ true) where
    pub worn : k' ≡ k → n.counting.is_worn (n.seen k) x ≡ true → CallDoes n g act k k' o.Worn
    worn same full = quiet o.Worn k k' same on (λ e. cc) refl refl (λ v. refl) refl
        (ap (commit_in n.counting (n.seen k)) is ∙ if_true (n.counting.is_worn (n.seen k) x) None _ full)
        (λ v is_on seen. may_be o.Worn k v is_on seen (sym (ap (outcome_in n.counting (n.seen k)) is ∙ if_true (n.counting.is_worn (n.seen k) x) o.Worn (o.Done a) full)))
        (subst (λ (b : Act C F A). CommitsSome (λ made. Unit {0}) b) (sym is) tt)

    module _ (nested : (s : S) → g.tells → Nested (g.times s))
        (keeps : (d : N) (s : n.Seen) (y : C) → n.IsSound d s → n.IsStorable y → n.IsFrom d s y → n.counting.is_worn s y ≡ false → n.IsSound d (n.counting.after s y))
        (counts : (d : N) (s : n.Seen) (y : C) → n.IsSound d s → n.IsStorable y → n.counting.count (n.counting.after s y) ≡ n.counting.count s + 1)
        (fresh : n.counting.is_worn (n.seen k) x ≡ false) (name : n.name k' ≡ n.name k) (kept : n.IsStorable x) (size : g.size (n.storage k') ≡ g.size (n.storage k))
        (time : g.tells → Elapses (g.times (n.storage k)) (g.times (n.storage k')))
        (any_moment : g.tells → (i : List ℕ) → (g.times (n.storage k')).since (g.times (n.storage k)).moment i → n.IsShown (n.seen k) i ⊎ n.IsShown (n.counting.after (n.seen k) x) i) where
      -- the record after it
      abbrev next : n.Seen
      next = n.counting.after (n.seen k) x

      act_is : (d : N) (v : View n.Seen) → Stands n g d v k → g.tells → act v.state ≡ Commits c x a
      act_is d v st tells = subst (λ (s : n.Seen). act s ≡ Commits c x a) (seen_of d v k st on tells) is

      made_is : (d : N) (v : View n.Seen) → Stands n g d v k → g.tells → commit_of n.counting v (act v.state) ≡ Some (c, next)
      made_is d v st tells = if_true v.on _ None (sym st.on ∙ on)
          ∙ subst (λ (s : n.Seen). commit_in n.counting s (act s) ≡ Some (c, next)) (seen_of d v k st on tells)
          (ap (commit_in n.counting (n.seen k)) is ∙ if_false (n.counting.is_worn (n.seen k) x) None (Some (c, next)) fresh)

      from_act : (d : N) (v : View n.Seen) → Stands n g d v k → g.tells → IsFitting n d v.state (act v.state) → n.IsFrom d (n.seen k) x
      from_act d v st tells fit =
          subst (λ (s : n.Seen). n.IsFrom d s x) (sym (seen_of d v k st on tells)) (subst (λ (b : Act C F A). IsFitting n d v.state b) (act_is d v st tells) fit)

      sound_now : (d : N) (v : View n.Seen) → Stands n g d v k → g.tells → n.IsSound d (n.seen k)
      sound_now d v st tells = subst (λ (s : n.Seen). n.IsSound d s) (sym (seen_of d v k st on tells)) (st.store.sound tells).state

      sound_after : (d : N) (v : View n.Seen) → Stands n g d v k → g.tells → IsFitting n d v.state (act v.state) → n.IsSound d next
      sound_after d v st tells fit = keeps d (n.seen k) x (sound_now d v st tells) kept (from_act d v st tells fit) fresh

      more_of : (d : N) (v : View n.Seen) → Stands n g d v k → g.tells → n.counting.count next ≡ n.counting.count v.state + 1
      more_of d v st tells = counts d (n.seen k) x (sound_now d v st tells) kept ∙ ap (λ (s : n.Seen). n.counting.count s + 1) (seen_of d v k st on tells)

      sound_kept : (d : N) (v : View n.Seen) → Stands n g d v k → g.tells → IsFitting n d v.state (act v.state) → IfSome (commit_of n.counting v (act v.state)) (λ y. IsNext n d v.state y.1)
      sound_kept d v st tells fit = subst (λ (m : Option (Commit × n.Seen)). IfSome m (λ y. IsNext n d v.state y.1)) (sym (made_is d v st tells)) (sound_after d v st tells fit, more_of d v st tells)

      seen_any : (d : N) (v : View n.Seen) → Stands n g d v k → g.tells → (i : List ℕ) → (g.times (n.storage k')).since (g.times (n.storage k)).moment i → n.IsShown v.state i ⊎ n.IsShown next i
      seen_any d v st tells i now = ⊎_elim
          (λ old. inl (subst (λ (s : n.Seen). n.IsShown s i) (seen_of d v k st on tells) old))
          (λ new. inr new)
          (any_moment tells i now)

      allowed_any : (v : View n.Seen) (i : List ℕ) → n.IsShown v.state i ⊎ n.IsShown next i → Allowed n v i ⊎ n.IsShown next i
      allowed_any v i (inl old) = inl (inl old)
      allowed_any v i (inr new) = inr new

      turned : (end : End) → (end ≡ Kept → ⊥) → (d : N) (v : View n.Seen) → Stands n g d v k → g.tells
          → (end ≡ Made → (i : List ℕ) → Image (g.times (n.storage k')) i → n.IsShown next i)
          → Turn (Allowed n v) (IsAfter n (Some (c, next))) (g.times (n.storage k)) (g.times (n.storage k')) end
      turned end not_kept d v st tells made = record {
        time = time tells;
        any_moment = λ i now. allowed_any v i (seen_any d v st tells i now);
        kept = λ e. absurd (not_kept e);
        made = made;
      }

      cost_is : (calls : ℕ) → (m m' : Meters) (end : End) → Spent calls m m' end → calls ≡ cost (act (n.seen k)) → Spent (cost (act (n.seen k))) m m' end
      cost_is calls m m' end spent e = subst (λ (i : ℕ). Spent i m m' end) e spent

      leaves : (x : Bool) (there : Bool) → there ≡ x → there ≡ (n.is_on k && x)
      leaves x there e = e ∙ sym (both_of (n.is_on k) x on)

      -- it is made
      pub done : n.is_on k' ≡ true → n.seen k' ≡ next → (g.tells → (i : List ℕ) → Image (g.times (n.storage k')) i → n.IsShown (n.seen k') i)
          → Spent 6 (g.meters (n.storage k)) (g.meters (n.storage k')) Made → CallDoes n g act k k' (o.Done a)
      done goes seen knows spent = record {
        off = (λ e. cc, λ e. absurd (true_not_false (n.is_on k) on e));
        leaves = leaves true (n.is_on k') goes;
        comes = λ d v st tells. may_be (o.Done a) k v (sym st.on ∙ on) (seen_of d v k st on tells)
            (sym (ap (outcome_in n.counting (n.seen k)) is ∙ if_false (n.counting.is_worn (n.seen k) x) o.Worn (o.Done a) fresh));
        stands = λ d v st tells fit.
            subst (λ (m : Option (Commit × n.Seen)). Stands n g d (after_call {F = F} (o.Done a) m v) k') (sym (made_is d v st tells)) (record {
              on = goes ∙ sym on ∙ st.on;
              store = record {
                size = size ∙ st.store.size;
                sound = λ t. record {
                  state = sound_after d v st tells fit;
                  next = subst (λ (p : Option n.Seen). IfSome p (n.IsSound d)) (sym (st.runs (sym st.on ∙ on)).closed) tt;
                  more = subst (λ (p : Option n.Seen). IfSome p (λ s. n.counting.count s ≡ n.counting.count next + 1)) (sym (st.runs (sym st.on ∙ on)).closed) tt;
                };
                shows = λ t i now. inl (subst (λ (s : n.Seen). n.IsShown s i) seen (knows t i now));
              };
              runs = λ e. record { closed = (st.runs e).closed; name = name ∙ (st.runs e).name; seen = λ t. seen };
            });
        turn = λ d v st tells.
            subst (λ (m : Option (Commit × n.Seen)). Turn (Allowed n v) (IsAfter n m) (g.times (n.storage k)) (g.times (n.storage k')) (end_of_call {F = F} (o.Done a) m)) (sym (made_is d v st tells))
            (turned Made (λ e. cc) d v st tells (λ e i now. subst (λ (s : n.Seen). n.IsShown s i) seen (knows tells i now)));
        keeps = sound_kept;
        came = subst (λ (b : Act C F A). TellsOf a b) (sym is) refl;
        refused = λ e. cc;
        tells_only = λ none. absurd (none (subst (λ (b : Act C F A). CommitsSome (λ made. Unit {0}) b) (sym is) tt));
        spent = cost_is 6 _ _ Kept (spent_kept 6 _ _ spent) (sym (ap cost is));
      }

      -- it failed, and the node is switched off
      off_after : n.is_on k' ≡ false → (d : N) (v : View n.Seen) → Stands n g d v k → g.tells → IsFitting n d v.state (act v.state) → Stands n g d (torn next v) k'
      off_after goes d v st tells fit = record {
        on = goes;
        store = record {
          size = size ∙ st.store.size;
          sound = λ t. record {
            state = (st.store.sound tells).state;
            next = sound_after d v st tells fit;
            more = more_of d v st tells;
          };
          shows = λ t i now.
              seen_any d v st tells i (nested (n.storage k') tells (g.times (n.storage k)).moment (g.times (n.storage k')).moment i (time tells).later now);
        };
        runs = λ e. cc;
      }

      pub cut : n.is_on k' ≡ false → Spent 6 (g.meters (n.storage k)) (g.meters (n.storage k')) Cut → CallDoes n g act k k' (o.Power c)
      cut goes spent = record {
        off = (λ e. cc, λ e. absurd (true_not_false (n.is_on k) on e));
        leaves = leaves false (n.is_on k') goes;
        comes = λ d v st tells. (next, made_is d v st tells);
        stands = λ d v st tells fit.
            subst (λ (m : Option (Commit × n.Seen)). Stands n g d (after_call {F = F} {A = A} (o.Power c) m v) k') (sym (made_is d v st tells)) (off_after goes d v st tells fit);
        turn = λ d v st tells.
            subst (λ (m : Option (Commit × n.Seen)). Turn (Allowed n v) (IsAfter n m) (g.times (n.storage k)) (g.times (n.storage k')) Cut) (sym (made_is d v st tells))
            (turned Cut (λ e. cc) d v st tells (λ e. cc));
        keeps = sound_kept;
        came = subst (λ (b : Act C F A). CommitsSome (λ made. made ≡ c) b) (sym is) refl;
        refused = λ e. cc;
        tells_only = λ none. absurd (none (subst (λ (b : Act C F A). CommitsSome (λ made. Unit {0}) b) (sym is) tt));
        spent = cost_is 6 _ _ Cut spent (sym (ap cost is));
      }

      pub faulted : n.is_on k' ≡ false → Spent 6 (g.meters (n.storage k)) (g.meters (n.storage k')) Faulted → CallDoes n g act k k' (o.Fault c)
      faulted goes spent = record {
        off = (λ e. cc, λ e. absurd (true_not_false (n.is_on k) on e));
        leaves = leaves false (n.is_on k') goes;
        comes = λ d v st tells. (next, made_is d v st tells);
        stands = λ d v st tells fit.
            subst (λ (m : Option (Commit × n.Seen)). Stands n g d (after_call {F = F} {A = A} (o.Fault c) m v) k') (sym (made_is d v st tells)) (off_after goes d v st tells fit);
        turn = λ d v st tells.
            subst (λ (m : Option (Commit × n.Seen)). Turn (Allowed n v) (IsAfter n m) (g.times (n.storage k)) (g.times (n.storage k')) Faulted) (sym (made_is d v st tells))
            (turned Faulted (λ e. cc) d v st tells (λ e. cc));
        keeps = sound_kept;
        came = subst (λ (b : Act C F A). CommitsSome (λ made. made ≡ c) b) (sym is) refl;
        refused = λ e. cc;
        tells_only = λ none. absurd (none (subst (λ (b : Act C F A). CommitsSome (λ made. Unit {0}) b) (sym is) tt));
        spent = cost_is 6 _ _ Faulted spent (sym (ap cost is));
      }
