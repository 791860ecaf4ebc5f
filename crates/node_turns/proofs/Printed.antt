-- A node that was called, and what was printed of what it gave to the printer.
use Rattle.std.proofs.Common.{◌≡◌, inl, inr, ℕ, ℤ, ◌≤◌, List, [], ◌∷◌, ◌++◌, Option, Some, None, option_map, Bool, true, false, refl, sym, ◌∙◌, ap, subst, arith, if◌then◌else◌}
use Rattle.bench_base.specs.declared.{words.Node.Node, ledger.Commit.Commit, ledger.Entry.Entry, events.Event.Event, events.Reply.Reply}
use Rattle.bench_base.specs.declared.ledger.Entry.TheVariants as entry
use Rattle.bench_base.specs.declared.events.Reply.TheVariants as r
use Rattle.bench_base.specs.Replies.{ReplyClass, Did, Refused, PrinterFailed, class_of, arms, leaves_on, MayGet}
use Rattle.bench_base.specs.Plans.{Plan, refuse, made}
use Rattle.nv_model.specs.declared.nv.Nv as nv
use Rattle.nv_model.specs.declared.fuse.Fuse as fuse
use Rattle.node_acts.specs.declared.{act.Act.Act, act.Act.TheVariants.Refuse, act.Act.TheVariants.Tell, act.Act.TheVariants.Commits, act.Outcome.Outcome, asked.Asked.TheVariants.Call, said.Said.Said, said.Printed.Printed as Print, said.GivenOut.GivenOut, said.GivenOut.TheVariants.Released, said.GivenOut.TheVariants.Printed}
use Rattle.node_acts.specs.declared.act.Outcome.TheVariants as o
use Rattle.node_acts.specs.Views.{View}
use Rattle.node_acts.specs.Acts.{MayCome, TellsOf, commit_of, outcome_in}
use Rattle.node_acts.specs.Plans.{after_told, with_commit, done_plan, act_entries, FailsTold, MayReply, view_told}
use Rattle.node_acts.specs.Said.{tells, with_sent, with_given, planned_commit, seen_plan, said_reply}
use Rattle.node_acts.specs.Kinds.{Kind}
use Rattle.node_acts.proofs.Told.{Tells, tells_call}
use Rattle.node_storage.specs.declared.node.Node.{Ghosts}
use Rattle.node_storage.specs.Shown.{IsFitting}
use Rattle.node_storage.specs.Stands.{meters_of, Stands}
use Rattle.node_storage.specs.Calls.{CallDoes}
use Rattle.node_turns.specs.declared.turn.Turn.{Turn}
use Rattle.node_turns.specs.NodeTurns.{NodeTurn, plan_by}
use Rattle.node_turns.specs.Calling.{Called}
use Rattle.node_turns.specs.Printing.{Printer, PrintsCall, prints_nothing, prints, fails, PrinterDid, NodePrints, print_in, print_of, to_print, unprinted_turn}
use Rattle.node_turns.specs.Turns.{in_order, call_turn}
use Rattle.node_turns.proofs.Calls.{IsCallOf, IsToldBy, MaySay, says_by, own_by, plain_by, refuses_by, made_none, made_uses, made_some, done_on, no, turn_call}

-- what is said is printed if and only if it says so
pub record PrintsSo (a : Said) : Type 0 where
  pub given : (p : Print) → print_in a.given ≡ Some p → a.reply ≡ r.Printed p.job
  pub says : (job : ℕ) → a.reply ≡ r.Printed job → (p : Print) × (print_in a.given ≡ Some p)

-- == the mark that a plan prints ==

print_more : (T : List Entry) (o : Option Commit) → print_of (T ++ with_commit o []) ≡ print_of T
print_more [] None = refl
print_more [] (Some c) = refl
print_more (entry.Printed job mark ∷ T) o = refl
print_more (_ ∷ T) o = print_more T o

print_tells : (given : Option GivenOut) (sent : Option (List ℕ)) → print_of (with_sent sent ++ with_given given) ≡ option_map (λ (p : Print). p.mark) (print_in given)
print_tells None None = refl
print_tells None (Some note) = refl
print_tells (Some (Released x)) None = refl
print_tells (Some (Released x)) (Some note) = refl
print_tells (Some (Printed x)) None = refl
print_tells (Some (Printed x)) (Some note) = refl

print_acts : {X : Type 0} (act : Act X Reply Said) (a : Said) → TellsOf a act → print_of (act_entries tells act) ≡ option_map (λ (p : Print). p.mark) (print_in a.given)
print_acts (Refuse x) a of = absurd of
print_acts (Tell b) a of = print_tells b.given b.sent ∙ ap (λ (y : Said). option_map (λ (p : Print). p.mark) (print_in y.given)) of
print_acts (Commits c x b) a of = print_more (tells b) (Some c) ∙ print_tells b.given b.sent ∙ ap (λ (y : Said). option_map (λ (p : Print). p.mark) (print_in y.given)) of

-- what a plan prints, if the reply reports that it was done
print_planned : (p : Plan) (t : ReplyClass) → t ≡ Did → print_of (after_told p t []) ≡ print_of p.after
print_planned p t is = ap (λ (u : ReplyClass). print_of (after_told p u [])) is ∙ print_more p.after p.commit

-- == in its place ==

module _ {K S N C R X : Type 0} (n : Ghosts K S N C R) (g : nv.Ghosts S) (f : fuse.Ghosts S) (kind : Kind N n.Seen X) (m : Node) (d : N) (today : ℤ) (e : Event) (call : X)
    (by : n.Seen → Act C Reply Said) (of : IsCallOf m e) (told : (s : n.Seen) → IsToldBy m e (by s))
    (plan_is : (v : View n.Seen) → kind.plan d today v call ≡ seen_plan n.counting m v (by v.state))
    (commit_is : (v : View n.Seen) → kind.commit d today v call ≡ commit_of n.counting v (by v.state))
    (fits : (s : n.Seen) → n.IsSound d s → IsFitting n d s (by s)) (so : (s : n.Seen) (a : Said) → TellsOf a (by s) → PrintsSo a) (s t : K) where
  abbrev act : Act C Reply Said
  act = by (n.seen s)

  did_refused : {P : Type 0} → Did ≡ Refused → P
  did_refused is = cc

  module _ (a : Said) (called : Called n g by s t (o.Done a)) where
    abbrev did : CallDoes n g by s t (o.Done a)
    did = called.does

    said : MaySay e a
    said = says_by m e act a (told (n.seen s)) did.came

    base : NodeTurn n g f kind m d today e (Call call) s t (call_turn m act (o.Done a))
    base = turn_call n g f kind m d today e call by of told plan_is commit_is fits s t (o.Done a) called

    -- it was not refused
    not_off : {P : Type 0} → a.reply ≡ r.OffNode m → P
    not_off is = did_refused (sym said.told ∙ ap class_of is)

    -- the plan prints the mark that is said
    plan_prints : (v : View n.Seen) → Stands n g d v s → g.tells → print_of (plan_by n kind m d today v (Call call)).after ≡ option_map (λ (p : Print). p.mark) (print_in a.given)
    plan_prints v st tells' =
        let may = did.comes d v st tells' in
        let it : Tells n.counting m (seen_plan n.counting m v (by v.state)) (by v.state) (commit_of n.counting v (by v.state)) (o.Done a) =
        tells_call n.counting m v (by v.state) (own_by m e (by v.state) (told v.state)) (plain_by m e (by v.state) (told v.state)) (o.Done a) may in
        ap (λ (p : Plan). print_of p.after) (plan_is v) ∙ sym (print_planned (seen_plan n.counting m v (by v.state)) (class_of a.reply) said.told) ∙ ap print_of (sym it.entries_are)
        ∙ print_acts (by v.state) a (tells_same v st tells' may)
      where
        tells_same : (v : View n.Seen) → Stands n g d v s → g.tells → MayCome n.counting v (by v.state) (o.Done a) → TellsOf a (by v.state)
        tells_same v st tells' may = subst (λ (x : n.Seen). TellsOf a (by x)) ((st.runs (done_on v.on _ a may)).seen tells') did.came

    -- == the printer fails ==

    module _ (p : Print) (gives : print_in a.given ≡ Some p) where
      reply_is : a.reply ≡ r.Printed p.job
      reply_is = (so (n.seen s) a did.came).given p gives

      made_commit : (on : Bool) (b : Act C Reply Said) (v : View n.Seen) → o.Done a ≡ (if on then outcome_in n.counting v.state b else o.Off)
          → (if on then done_plan n.counting m (λ x. x) (λ y. y.reply) tells v.state b else refuse (r.OffNode m)).commit ≡ planned_commit b
      made_commit true (Refuse y) v is = cc
      made_commit true (Tell y) v is = refl
      made_commit true (Commits c x y) v is = by_worn (n.counting.is_worn v.state x) is
        where
          by_worn : (worn : Bool) → ◌≡◌ {A = Outcome Reply Said} (o.Done a) (if worn then o.Worn else o.Done y) → (if worn then refuse (r.Worn m) else made y.reply c (tells y)).commit ≡ Some c
          by_worn true same = cc
          by_worn false same = refl
      made_commit false b v is = cc

      same_view : (made : Option (Commit × n.Seen)) (v : View n.Seen) → view_told n.counting (PrinterFailed p.job) made v ≡ view_told n.counting Did made v
      same_view None v = refl
      same_view (Some x) v = refl

      pub unprinted : NodeTurn n g f kind m d today e (Call call) s t (unprinted_turn (planned_commit act) p.job)
      unprinted = record {
        by_view = λ v st tells'.
            let moved = base.by_view v st tells' in
            let done = did.comes d v st tells' in record {
              may = inr (inr (answers v moved.may));
              entries = ap (λ (c : Option Commit). in_order (with_commit c []))
                  (ap (λ (x : n.Seen). planned_commit (by x)) ((st.runs (done_on v.on _ a done)).seen tells') ∙ sym (made_commit v.on (by v.state) v done) ∙ sym (ap (λ (q : Plan). q.commit) (plan_is v)));
              stands = subst (λ (w : View n.Seen). Stands n g d w t)
                  (ap (λ (u : ReplyClass). view_told n.counting u (kind.commit d today v call) v) said.told ∙ sym (same_view (kind.commit d today v call) v)) moved.stands;
              any_moment = moved.any_moment;
            };
        keeps = base.keeps;
        reply = subst (λ (x : Reply). MayGet e x) reply_is base.reply;
        on_day = λ is. cc;
        refused = λ is. no is;
        adds = (planned_commit act, made_none m e act (told (n.seen s)), refl);
        uses = made_uses m e act (told (n.seen s)) a did.came (meters_of n g s) (meters_of n g t) called.uses;
        untouched = λ is powered fine none. did.tells_only (λ some. made_some act some none);
        unwritten = base.unwritten;
        found = λ tells' on read. no read;
        charged = record {
          cuts = base.charged.cuts;
          faults = base.charged.faults;
          fuse = λ cut. base.charged.fuse (ap (arms m) said.told);
          power = λ claims. no claims;
          fault = λ claims. no claims;
        };
        switches = record {
          off = λ on. (λ is. cc, λ is. not_off ((base.switches.off on).1 is));
          already = λ on. absurd (of.no_switch on);
          leaves = base.switches.leaves ∙ ap (λ (u : ReplyClass). leaves_on u (n.is_on s)) said.told;
        };
        armed = base.armed;
      }
        where
          answers : (v : View n.Seen) → MayReply n.counting m v (kind.plan d today v call) a.reply → (kind.plan d today v call).reply ≡ r.Printed p.job
          answers v (inl is) = sym is ∙ reply_is
          answers v (inr (inl up)) = let wrong : r.Printed p.job ≡ r.Up m _ = sym reply_is ∙ up.2 in cc
          answers v (inr (inr failing)) = absurd (subst (λ (u : ReplyClass). FailsTold (kind.plan d today v call) u) said.told failing)

  -- a call that was not done, or that gives nothing to the printer, is reported so
  not_printed : (x : Outcome Reply Said) → Called n g by s t x → to_print x ≡ None → (job : ℕ) → said_reply m x ≡ r.Printed job → ⊥
  not_printed o.Off did none job is = cc
  not_printed (o.Refused y) did none job is = let t : Did ≡ Refused = sym (ap class_of is) ∙ (refuses_by m e act y (told (n.seen s)) did.does.came).told in cc
  not_printed (o.Done a) did none job is = let p = (so (n.seen s) a did.does.came).says job is in let wrong : None ≡ Some p.0 = sym none ∙ p.1 in cc
  not_printed o.Worn did none job is = cc
  not_printed (o.Power c) did none job is = cc
  not_printed (o.Fault c) did none job is = cc

  not_failed : (x : Outcome Reply Said) → Called n g by s t x → (job : ℕ) → said_reply m x ≡ r.PrinterFault job → ⊥
  not_failed o.Off did job is = cc
  not_failed (o.Refused y) did job is = let t : PrinterFailed job ≡ Refused = sym (ap class_of is) ∙ (refuses_by m e act y (told (n.seen s)) did.does.came).told in cc
  not_failed (o.Done a) did job is = let t : PrinterFailed job ≡ Did = sym (ap class_of is) ∙ (said a did).told in cc
  not_failed o.Worn did job is = cc
  not_failed (o.Power c) did job is = cc
  not_failed (o.Fault c) did job is = cc

  -- what is reported of the call, and what the printer took
  pub record TurnPrinted (turn : Turn) (before now : Printer) : Type 0 where
    pub did : NodeTurn n g f kind m d today e (Call call) s t turn
    pub prints : NodePrints n g kind m d today (Call call) s turn.reply before now

  pub turn_printed : (x : Outcome Reply Said) → Called n g by s t x → (turn : Turn) (before now : Printer) → PrintsCall m act x before now turn → TurnPrinted turn before now
  turn_printed x did _ before now (prints_nothing none same) =
      let nothing : (mark : Option (List ℕ)) → PrinterDid (said_reply m x) mark before now = λ mark. record {
        whole = λ job is. absurd (not_printed x did none job is);
        cut = λ job is. absurd (not_failed x did job is);
        rests = λ whole cut. same;
        later = subst (λ (p : Printer). before.faults ≤ p.faults) (sym same) (omega arith);
      } in
      record { did = turn_call n g f kind m d today e call by of told plan_is commit_is fits s t x did; prints = record { by_view = λ v st tells'. nothing _; mark = None; alone = nothing None } }
  turn_printed o.Off did _ before now (prints p is appends later) = cc
  turn_printed (o.Refused y) did _ before now (prints p is appends later) = cc
  turn_printed o.Worn did _ before now (prints p is appends later) = cc
  turn_printed (o.Power c) did _ before now (prints p is appends later) = cc
  turn_printed (o.Fault c) did _ before now (prints p is appends later) = cc
  turn_printed (o.Done a) did _ before now (prints p is appends later) =
      let printed : (mark : Option (List ℕ)) → mark ≡ Some p.mark → PrinterDid a.reply mark before now = λ mark same. record {
        whole = λ job says. (p.mark, same, appends);
        cut = λ job says. absurd (not_failed (o.Done a) did job says);
        rests = λ whole cut. absurd (whole p.job (reply_is a did p is));
        later = later;
      } in
      record {
        did = base a did;
        prints = record {
          by_view = λ v st tells'. printed _ (plan_prints a did v st tells' ∙ ap (λ (q : Option Print). option_map (λ (y : Print). y.mark) q) is);
          mark = Some p.mark;
          alone = printed (Some p.mark) refl;
        };
      }
  turn_printed o.Off did _ before now (fails p k is lt appends rose later) = cc
  turn_printed (o.Refused y) did _ before now (fails p k is lt appends rose later) = cc
  turn_printed o.Worn did _ before now (fails p k is lt appends rose later) = cc
  turn_printed (o.Power c) did _ before now (fails p k is lt appends rose later) = cc
  turn_printed (o.Fault c) did _ before now (fails p k is lt appends rose later) = cc
  turn_printed (o.Done a) did _ before now (fails p k is lt appends rose later) =
      let failed : (mark : Option (List ℕ)) → mark ≡ Some p.mark → PrinterDid (r.PrinterFault p.job) mark before now = λ mark same. record {
        whole = λ job says. cc;
        cut = λ job says. (p.mark, k, same, lt, appends, rose);
        rests = λ whole cut. absurd (cut p.job refl);
        later = later;
      } in
      record {
        did = unprinted a did p is;
        prints = record {
          by_view = λ v st tells'. failed _ (plan_prints a did v st tells' ∙ ap (λ (q : Option Print). option_map (λ (y : Print). y.mark) q) is);
          mark = Some p.mark;
          alone = failed (Some p.mark) refl;
        };
      }
