-- A node that was called, by the act of the call.
use Rattle.std.proofs.Common.{◌≡◌, ◌≢◌, ◌⊎◌, inl, inr, ℕ, ℤ, ◌≤◌, List, [], ◌∷◌, ◌++◌, append-nil, Option, Some, None, Bool, true, false, not, ◌&&◌, ◌↔◌, refl, sym, ◌∙◌, ap, subst, true≢false, arith, if◌then◌else◌}
use Rattle.std.specs.Prelude.{IfSome}
use Rattle.std.proofs.Math.Bool.{and-true, and-false}
use Rattle.bench_base.specs.declared.{words.Node.Node, ledger.Commit.Commit, events.Event.Event, events.Reply.Reply}
use Rattle.bench_base.specs.declared.ledger.Entry.TheVariants as entry
use Rattle.bench_base.specs.declared.events.Event.TheVariants as ev
use Rattle.bench_base.specs.declared.events.Reply.TheVariants as r
use Rattle.bench_base.specs.Events.{node_for, needs_on, may_commit, calls_of, IsAt}
use Rattle.bench_base.specs.Ledger.{Ledger}
use Rattle.bench_base.specs.Nodes.{node_of}
use Rattle.bench_base.specs.Replies.{ReplyClass, Did, Refused, refuses, loses_power, faults, leaves_on, class_of, report_of, is_refusal, tells_power, tells_fault, MayGet, Commits as CommitsAt}
use Rattle.bench_base.specs.Plans.{Plan}
use Rattle.nv_model.specs.declared.nv.Nv as nv
use Rattle.nv_model.specs.declared.fuse.Fuse as fuse
use Rattle.nv_model.specs.Meters.{Meters, Uses}
use Rattle.nv_store.specs.Mounts.{Mounts}
use Rattle.nv_store.specs.Store.{UsesCommit}
use Rattle.nv_store.specs.Turns.{Spent}
use Rattle.node_acts.specs.declared.{act.Act.Act, act.Act.TheVariants.Refuse, act.Act.TheVariants.Tell, act.Act.TheVariants.Commits, act.Outcome.Outcome, asked.Asked.TheVariants.Call, said.Said.Said, said.GivenOut.GivenOut, said.GivenOut.TheVariants.Released, said.GivenOut.TheVariants.Printed}
use Rattle.node_acts.specs.declared.act.Outcome.TheVariants as o
use Rattle.node_acts.specs.Views.{View}
use Rattle.node_acts.specs.Acts.{cost, has_failed, commit_of, outcome_in, MayCome, TellsOf, CommitsSome, CameOf}
use Rattle.node_acts.specs.Acts as acts
use Rattle.node_acts.specs.Plans.{after, with_commit, act_entries, MayReply, view_after, IsOfNode}
use Rattle.node_acts.specs.Said.{IsPlain, planned_commit, with_given, with_sent, tells, seen_plan, said_reply, said_entries}
use Rattle.node_acts.specs.Kinds.{Kind}
use Rattle.node_acts.proofs.Told.{Tells, tells_call}
use Rattle.node_storage.specs.declared.node.Node.{Ghosts}
use Rattle.node_storage.specs.Ends.{end_of}
use Rattle.node_storage.specs.Shown.{Allowed, IsAfter, IsNext, IsFitting}
use Rattle.node_storage.specs.Stands.{times_of, meters_of, Stands}
use Rattle.node_storage.proofs.Rests.{mounts_none}
use Rattle.node_turns.specs.Adds.{Adds, AddsTold, AddsDone}
use Rattle.node_turns.specs.Costs.{Charged}
use Rattle.node_turns.specs.NodeTurns.{NodeTurn}
use Rattle.node_turns.specs.Calling.{Called, UsesMade}
use Rattle.node_turns.specs.Turns.{in_order, made_in, call_turn}

pub no : {P : Type 0} → false ≡ true → P
no is = absurd (true≢false (sym is))

-- what a fuse may use of a smaller number of calls, it may use of a greater one
uses_more : (few many : ℕ) → few ≤ many → (was is : Option ℕ) → Uses few was is → Uses many was is
uses_more few many le None is uses = uses
uses_more few many le (Some left) None uses = omega arith
uses_more few many le (Some left) (Some rest) uses = (uses.0, omega (arith, uses.1))

-- == what an event may get by an act ==

-- the event calls node m
pub record IsCallOf (m : Node) (e : Event) : Type 0 where
  pub on : needs_on e ≡ true
  pub at : IsAt (node_for e) m
  pub no_switch : e ≢ ev.On m
  pub no_cut : (calls keep byte : ℕ) → e ≢ ev.Cut m calls keep byte

-- it may be refused so
pub record MayRefuse (m : Node) (e : Event) (x : Reply) : Type 0 where
  pub told : class_of x ≡ Refused
  pub on_day : x ≢ r.NoDay
  pub not_off : x ≢ r.OffNode m
  pub gets : MayGet e x

-- it may be reported so
pub record MaySay (e : Event) (a : Said) : Type 0 where
  pub told : class_of a.reply ≡ Did
  pub gets : MayGet e a.reply
  pub adds : (made : Option Commit) → (may_commit e ≡ false → made ≡ None) → AddsDone e (report_of a.reply) (in_order (tells a ++ with_commit made []))

-- it may make this commit
pub record MayMake (m : Node) (e : Event) (c : Commit) : Type 0 where
  pub commits : may_commit e ≡ true
  pub own : node_of c ≡ m
  pub costs : 6 ≤ calls_of e

abbrev pub IsToldBy : {X : Type 0} → Node → Event → Act X Reply Said → Type 0
IsToldBy m e (Refuse x) = MayRefuse m e x
IsToldBy m e (Tell a) = MaySay e a
IsToldBy m e (Commits c x a) = MayMake m e c × MaySay e a

module _ {X : Type 0} (m : Node) (e : Event) where
  pub plain_by : (act : Act X Reply Said) → IsToldBy m e act → IsPlain act
  plain_by (Refuse x) told = told.told
  plain_by (Tell a) told = told.told
  plain_by (Commits c x a) told = told.1.told

  pub own_by : (act : Act X Reply Said) → IsToldBy m e act → IsOfNode m act
  own_by (Refuse x) told = tt
  own_by (Tell a) told = tt
  own_by (Commits c x a) told = told.0.own

  cost_by : (act : Act X Reply Said) → IsToldBy m e act → cost act ≤ calls_of e
  cost_by (Refuse x) told = omega arith
  cost_by (Tell a) told = omega arith
  cost_by (Commits c x a) told = told.0.costs

  commits_by : (P : Commit → Type 0) (act : Act X Reply Said) → IsToldBy m e act → CommitsSome P act → may_commit e ≡ true
  commits_by P (Refuse x) told some = absurd some
  commits_by P (Tell a) told some = absurd some
  commits_by P (Commits c x a) told some = told.0.commits

  pub refuses_by : (act : Act X Reply Said) (x : Reply) → IsToldBy m e act → act ≡ Refuse x → MayRefuse m e x
  refuses_by act x told is = subst (λ (a : Act X Reply Said). IsToldBy m e a) is told

  pub says_by : (act : Act X Reply Said) (a : Said) → IsToldBy m e act → TellsOf a act → MaySay e a
  says_by (Refuse x) a told of = absurd of
  says_by (Tell b) a told of = subst (λ (b : Said). MaySay e b) of told
  says_by (Commits c x b) a told of = subst (λ (b : Said). MaySay e b) of told.1

  -- it plans no commit where the event commits nothing
  pub made_none : (act : Act X Reply Said) → IsToldBy m e act → may_commit e ≡ false → planned_commit act ≡ None
  made_none (Refuse x) told none = refl
  made_none (Tell a) told none = refl
  made_none (Commits c x a) told none = no (sym none ∙ told.0.commits)

  -- what is added by what was said
  pub adds_by : (act : Act X Reply Said) (a : Said) → IsToldBy m e act → TellsOf a act → AddsDone e (report_of a.reply) (in_order (act_entries tells act))
  adds_by (Refuse x) a told of = absurd of
  adds_by (Tell b) a told of = subst (λ (y : Said). AddsDone e (report_of y.reply) (in_order (tells b))) of
      (subst (λ (l : Ledger). AddsDone e (report_of b.reply) (in_order l)) (append-nil (tells b)) (told.adds None (λ none. refl)))
  adds_by (Commits c x b) a told of = subst (λ (y : Said). AddsDone e (report_of y.reply) (in_order (tells b ++ entry.Commit c ∷ []))) of
      (told.1.adds (Some c) (λ none. no (sym none ∙ told.0.commits)))

-- == the commit that is reported ==

none_said : (given : Option GivenOut) (sent : Option (List ℕ)) → made_in (in_order (with_sent sent ++ with_given given)) ≡ None
none_said None None = refl
none_said None (Some note) = refl
none_said (Some (Released x)) None = refl
none_said (Some (Released x)) (Some note) = refl
none_said (Some (Printed x)) None = refl
none_said (Some (Printed x)) (Some note) = refl

some_said : (given : Option GivenOut) (sent : Option (List ℕ)) (c : Commit) → made_in (in_order ((with_sent sent ++ with_given given) ++ entry.Commit c ∷ [])) ≡ Some c
some_said None None c = refl
some_said None (Some note) c = refl
some_said (Some (Released x)) None c = refl
some_said (Some (Released x)) (Some note) c = refl
some_said (Some (Printed x)) None c = refl
some_said (Some (Printed x)) (Some note) c = refl

none_some : {A P : Type 0} (o : Option A) (a : A) → o ≡ None → o ≡ Some a → P
none_some o a none some = let wrong : None ≡ Some a = sym none ∙ some in cc

-- the commit that is reported is the node's, and used four calls or six
call_uses : {X : Type 0} (m : Node) (e : Event) (act : Act X Reply Said) → IsToldBy m e act → (x : Outcome Reply Said) → CameOf act x → (was is : Meters) → UsesMade act x was is
    → (c : Commit) → made_in (in_order (said_entries m act x)) ≡ Some c → (node_of c ≡ m) × UsesCommit was.fuse is.fuse
call_uses m e act told o.Off came was is uses c made = cc
call_uses m e act told (o.Refused y) came was is uses c made = cc
call_uses m e (Refuse y) told (o.Done a) came was is uses c made = absurd came
call_uses m e (Tell b) told (o.Done a) came was is uses c made = none_some _ c (none_said b.given b.sent) made
call_uses m e (Commits d x b) told (o.Done a) came was is uses c made =
    let same : Some d ≡ Some c = sym (some_said b.given b.sent d) ∙ made in (ap node_of (cc) ∙ told.0.own, uses refl)
call_uses m e act told o.Worn came was is uses c made = cc
call_uses m e act told (o.Power d) came was is uses c made = cc
call_uses m e act told (o.Fault d) came was is uses c made = cc

-- the same holds of the commit of the act alone
pub made_uses : {X : Type 0} (m : Node) (e : Event) (act : Act X Reply Said) → IsToldBy m e act → (a : Said) → TellsOf a act → (was is : Meters) → UsesMade act (o.Done a) was is
    → (c : Commit) → made_in (in_order (with_commit (planned_commit act) [])) ≡ Some c → (node_of c ≡ m) × UsesCommit was.fuse is.fuse
made_uses m e (Refuse y) told a of was is uses c made = absurd of
made_uses m e (Tell b) told a of was is uses c made = cc
made_uses m e (Commits d x b) told a of was is uses c made = (ap node_of (cc) ∙ told.0.own, uses refl)

pub made_some : {X : Type 0} (act : Act X Reply Said) → CommitsSome (λ c. Unit {0}) act → made_in (in_order (with_commit (planned_commit act) [])) ≡ None → ⊥
made_some (Refuse y) some none = some
made_some (Tell b) some none = some
made_some (Commits d x b) some none = cc

-- if no commit is reported and none failed, the node is as it was
call_rests : {X : Type 0} (m : Node) (act : Act X Reply Said) (x : Outcome Reply Said) → CameOf act x → (P : Type 0) → (acts.is_refusal x ≡ true → P)
    → ((CommitsSome (λ c. Unit {0}) act → ⊥) → P) → said_reply m x ≢ r.Power m → said_reply m x ≢ r.Fault m → made_in (in_order (said_entries m act x)) ≡ None → P
call_rests m act o.Off came P refused only powered fine made = refused refl
call_rests m act (o.Refused y) came P refused only powered fine made = refused refl
call_rests m (Refuse y) (o.Done a) came P refused only powered fine made = absurd came
call_rests m (Tell b) (o.Done a) came P refused only powered fine made = only (λ some. some)
call_rests m (Commits c x b) (o.Done a) came P refused only powered fine made = none_some _ c made (some_said b.given b.sent c)
call_rests m act o.Worn came P refused only powered fine made = refused refl
call_rests m act (o.Power c) came P refused only powered fine made = absurd (powered refl)
call_rests m act (o.Fault c) came P refused only powered fine made = absurd (fine refl)

module _ {X : Type 0} (m : Node) (e : Event) (of : IsCallOf m e) (act : Act X Reply Said) (told : IsToldBy m e act) where
  commits_at : (P : Commit → Type 0) → CommitsSome P act → CommitsAt e m
  commits_at P some = record { commits = commits_by m e P act told some; at = of.at }

  -- what the outcome is reported as
  says : (x : Outcome Reply Said) → CameOf act x → (a : Said) → x ≡ o.Done a → MaySay e a
  says x came a is = says_by m e act a told (subst (λ (y : Outcome Reply Said). CameOf act y) is came)

  call_gets : (x : Outcome Reply Said) → CameOf act x → MayGet e (said_reply m x)
  call_gets o.Off came = inl (of.on, of.at)
  call_gets (o.Refused y) came = (refuses_by m e act y told came).gets
  call_gets (o.Done a) came = (says_by m e act a told came).gets
  call_gets o.Worn came = commits_at (λ c. Unit {0}) came
  call_gets (o.Power c) came = inr (commits_at (λ made. made ≡ c) came)
  call_gets (o.Fault c) came = inr (commits_at (λ made. made ≡ c) came)

  call_on_day : (x : Outcome Reply Said) → CameOf act x → said_reply m x ≢ r.NoDay
  call_on_day o.Off came is = cc
  call_on_day (o.Refused y) came is = (refuses_by m e act y told came).on_day is
  call_on_day (o.Done a) came is = let t : Refused ≡ Did = sym (ap class_of is) ∙ (says_by m e act a told came).told in cc
  call_on_day o.Worn came is = cc
  call_on_day (o.Power c) came is = cc
  call_on_day (o.Fault c) came is = cc

  call_refused : (x : Outcome Reply Said) → CameOf act x → (P : Type 0) → (acts.is_refusal x ≡ true → P) → is_refusal (said_reply m x) ≡ true
      → P × (in_order (said_entries m act x) ≡ in_order [])
  call_refused o.Off came P stays is = (stays refl, refl)
  call_refused (o.Refused y) came P stays is = (stays refl, refl)
  call_refused (o.Done a) came P stays is = no (sym (ap refuses (says_by m e act a told came).told) ∙ is)
  call_refused o.Worn came P stays is = (stays refl, refl)
  call_refused (o.Power c) came P stays is = no is
  call_refused (o.Fault c) came P stays is = no is

  call_adds : (x : Outcome Reply Said) → CameOf act x → Adds e (said_reply m x) (in_order (said_entries m act x))
  call_adds o.Off came = refl
  call_adds (o.Refused y) came = subst (λ (t : ReplyClass). AddsTold e y t (in_order [])) (sym (refuses_by m e act y told came).told) refl
  call_adds (o.Done a) came = subst (λ (t : ReplyClass). AddsTold e a.reply t (in_order (said_entries m act (o.Done a)))) (sym (says_by m e act a told came).told) (adds_by m e act a told came)
  call_adds o.Worn came = refl
  call_adds (o.Power c) came = inr (c, commits_by m e (λ made. made ≡ c) act told came, refl)
  call_adds (o.Fault c) came = inr (c, commits_by m e (λ made. made ≡ c) act told came, refl)

  -- neither a refusal nor an answer that it was done reports a failure
  no_power : (x : Reply) (t : ReplyClass) → class_of x ≡ t → loses_power m t ≡ false → tells_power m x ≡ true → {P : Type 0} → P
  no_power x t is isnt claims = no (sym (ap (loses_power m) is ∙ isnt) ∙ claims)

  no_fault : (x : Reply) (t : ReplyClass) → class_of x ≡ t → faults m t ≡ false → tells_fault m x ≡ true → {P : Type 0} → P
  no_fault x t is isnt claims = no (sym (ap (faults m) is ∙ isnt) ∙ claims)

  call_charged : (x : Outcome Reply Said) → CameOf act x → (was is : Meters) → Spent (cost act) was is (end_of x) → Charged m e (said_reply m x) was is
  call_charged o.Off came was is s = record { cuts = s.cuts; faults = s.faults; fuse = λ cut. uses_more _ _ (cost_by m e act told) _ _ s.fuse; power = λ claims. no claims; fault = λ claims. no claims }
  call_charged (o.Refused y) came was is s = record {
    cuts = s.cuts;
    faults = s.faults;
    fuse = λ cut. uses_more _ _ (cost_by m e act told) _ _ s.fuse;
    power = λ claims. no_power y Refused (refuses_by m e act y told came).told refl claims;
    fault = λ claims. no_fault y Refused (refuses_by m e act y told came).told refl claims;
  }
  call_charged (o.Done a) came was is s = record {
    cuts = s.cuts;
    faults = s.faults;
    fuse = λ cut. uses_more _ _ (cost_by m e act told) _ _ s.fuse;
    power = λ claims. no_power a.reply Did (says_by m e act a told came).told refl claims;
    fault = λ claims. no_fault a.reply Did (says_by m e act a told came).told refl claims;
  }
  call_charged o.Worn came was is s = record { cuts = s.cuts; faults = s.faults; fuse = λ cut. uses_more _ _ (cost_by m e act told) _ _ s.fuse; power = λ claims. no claims; fault = λ claims. no claims }
  call_charged (o.Power c) came was is s = record { cuts = s.cuts; faults = s.faults; fuse = λ cut. uses_more _ _ (cost_by m e act told) _ _ s.fuse; power = λ claims. s.power refl; fault = λ claims. no claims }
  call_charged (o.Fault c) came was is s = record { cuts = s.cuts; faults = s.faults; fuse = λ cut. uses_more _ _ (cost_by m e act told) _ _ s.fuse; power = λ claims. no claims; fault = λ claims. s.fault refl }

  call_off : (x : Outcome Reply Said) → CameOf act x → (was : Bool) → (x ≡ o.Off) ↔ (was ≡ false) → (said_reply m x ≡ r.OffNode m) ↔ (was ≡ false)
  call_off o.Off came was found = (λ e. found.0 refl, λ off. refl)
  call_off (o.Refused y) came was found = (λ is. absurd ((refuses_by m e act y told came).not_off is), λ off. let is = found.1 off in cc)
  call_off (o.Done a) came was found = (λ is. let t : Refused ≡ Did = sym (ap class_of is) ∙ (says_by m e act a told came).told in cc, λ off. let is = found.1 off in cc)
  call_off o.Worn came was found = (λ is. cc, λ off. let is = found.1 off in cc)
  call_off (o.Power c) came was found = (λ is. cc, λ off. let is = found.1 off in cc)
  call_off (o.Fault c) came was found = (λ is. cc, λ off. let is = found.1 off in cc)

  call_leaves : (x : Outcome Reply Said) → CameOf act x → (was : Bool) → (was && not (has_failed x)) ≡ leaves_on (class_of (said_reply m x)) was
  call_leaves o.Off came was = and-true was
  call_leaves (o.Refused y) came was = and-true was ∙ sym (ap (λ (t : ReplyClass). leaves_on t was) (refuses_by m e act y told came).told)
  call_leaves (o.Done a) came was = and-true was ∙ sym (ap (λ (t : ReplyClass). leaves_on t was) (says_by m e act a told came).told)
  call_leaves o.Worn came was = and-true was
  call_leaves (o.Power c) came was = and-false was
  call_leaves (o.Fault c) came was = and-false was

-- what was done was done by a node that is on
pub done_on : (on : Bool) (y : Outcome Reply Said) (a : Said) → o.Done a ≡ (if on then y else o.Off) → on ≡ true
done_on true y a is = refl
done_on false y a is = cc

-- == in its place ==

module _ {K S N C R X : Type 0} (n : Ghosts K S N C R) (g : nv.Ghosts S) (f : fuse.Ghosts S) (kind : Kind N n.Seen X) (m : Node) (d : N) (today : ℤ) (e : Event) (call : X)
    (by : n.Seen → Act C Reply Said) (of : IsCallOf m e) (told : (s : n.Seen) → IsToldBy m e (by s))
    (plan_is : (v : View n.Seen) → kind.plan d today v call ≡ seen_plan n.counting m v (by v.state))
    (commit_is : (v : View n.Seen) → kind.commit d today v call ≡ commit_of n.counting v (by v.state))
    (fits : (s : n.Seen) → n.IsSound d s → IsFitting n d s (by s)) (s t : K) where
  abbrev act : Act C Reply Said
  act = by (n.seen s)

  -- what is added is what the act adds that is seen
  same_entries : (v : View n.Seen) → Stands n g d v s → g.tells → (x : Outcome Reply Said) → MayCome n.counting v (by v.state) x → said_entries m act x ≡ said_entries m (by v.state) x
  same_entries v st tells' o.Off may = refl
  same_entries v st tells' (o.Refused y) may = refl
  same_entries v st tells' (o.Done a) may =
      ap (λ (seen : n.Seen). said_entries m (by seen) (o.Done a)) ((st.runs (done_on v.on (outcome_in n.counting v.state (by v.state)) a may)).seen tells')
  same_entries v st tells' o.Worn may = refl
  same_entries v st tells' (o.Power c) may = refl
  same_entries v st tells' (o.Fault c) may = refl

  pub turn_call : (x : Outcome Reply Said) → Called n g by s t x → NodeTurn n g f kind m d today e (Call call) s t (call_turn m act x)
  turn_call x called = let did = called.does in record {
    by_view = λ v st tells'.
        let it : Tells n.counting m (seen_plan n.counting m v (by v.state)) (by v.state) (commit_of n.counting v (by v.state)) x =
        tells_call n.counting m v (by v.state) (own_by m e (by v.state) (told v.state)) (plain_by m e (by v.state) (told v.state)) x (did.comes d v st tells') in
        record {
          may = may_by v x it;
          entries = ap in_order (same_entries v st tells' x (did.comes d v st tells') ∙ it.entries_are) ∙ ap (λ (p : Plan). in_order (after p (said_reply m x) [])) (sym (plan_is v));
          stands = subst (λ (made : Option (Commit × n.Seen)). Stands n g d (view_after n.counting (said_reply m x) made v) t) (sym (commit_is v))
              (subst (λ (w : View n.Seen). Stands n g d w t) (sym (it.view v)) (did.stands d v st tells' (fits v.state (st.store.sound tells').state)));
          any_moment = λ image is. subst (λ (made : Option (Commit × n.Seen)). Allowed n v image ⊎ IsAfter n made image) (sym (commit_is v)) ((did.turn d v st tells').any_moment image is);
        };
    keeps = λ v st tells'. subst (λ (made : Option (Commit × n.Seen)). IfSome made (λ y. IsNext n d v.state y.1)) (sym (commit_is v)) (did.keeps d v st tells' (fits v.state (st.store.sound tells').state));
    reply = call_gets m e of act (told (n.seen s)) x did.came;
    on_day = call_on_day m e of act (told (n.seen s)) x did.came;
    refused = call_refused m e of act (told (n.seen s)) x did.came (t ≡ s) did.refused;
    adds = call_adds m e of act (told (n.seen s)) x did.came;
    uses = call_uses m e act (told (n.seen s)) x did.came (meters_of n g s) (meters_of n g t) called.uses;
    untouched = λ is powered fine. call_rests m act x did.came (t ≡ s) did.refused did.tells_only powered fine;
    unwritten = λ tells' none. subst (λ (k : K). Mounts (times_of n g s) (times_of n g k)) (sym (did.tells_only (λ some. no (sym none ∙ commits_by m e (λ c. Unit {0}) act (told (n.seen s)) some)))) (mounts_none (times_of n g s));
    found = λ tells' on. absurd (of.no_switch on);
    charged = call_charged m e of act (told (n.seen s)) x did.came _ _ did.spent;
    switches = record {
      off = λ on. call_off m e of act (told (n.seen s)) x did.came (n.is_on s) did.off;
      already = λ on. absurd (of.no_switch on);
      leaves = did.leaves ∙ call_leaves m e of act (told (n.seen s)) x did.came (n.is_on s);
    };
    armed = λ calls keep byte is. absurd (of.no_cut calls keep byte is);
  }
    where
      may_by : (v : View n.Seen) (x : Outcome Reply Said) → Tells n.counting m (seen_plan n.counting m v (by v.state)) (by v.state) (commit_of n.counting v (by v.state)) x
          → MayReply n.counting m v (kind.plan d today v call) (said_reply m x)
      may_by v x it = subst (λ (p : Plan). MayReply n.counting m v p (said_reply m x)) (sym (plan_is v)) (by_may it.may)
        where
          by_may : {P Q W : Type 0} → P ⊎ W → P ⊎ (Q ⊎ W)
          by_may (inl p) = inl p
          by_may (inr w) = inr (inr w)
