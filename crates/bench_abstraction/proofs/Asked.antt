-- What a node is asked, whatever its kind: its plan, the commit of the plan and how it goes, where a call has its own.
use Rattle.std.proofs.Common.{◌≡◌, ℕ, List, [], ◌∷◌, ◌++◌, Option, Some, None, Bool, true, false, option_map, refl, arith}
use Rattle.std.specs.Prelude.{if◌then◌else◌}
use Rattle.std.proofs.lemmas.Option.{none-some}
use Rattle.bench_base.specs.declared.{words.Node.Node, ledger.Commit.Commit, events.Reply.Reply}
use Rattle.bench_base.specs.declared.ledger.Entry.TheVariants as entry
use Rattle.bench_base.specs.declared.events.Reply.TheVariants as r
use Rattle.bench_base.specs.Replies.{ReplyClass, Did, Refused, Armed, CameOn, WentOff, LostPower, Faulted, WasDamaged, PrinterFailed, RatesFailed}
use Rattle.bench_base.specs.Nodes.{node_of}
use Rattle.bench_base.specs.Plans.{Plan, refuse, made, told}
use Rattle.bench_base.specs.Ledger.{Ledger, is_on}
use Rattle.node_acts.specs.declared.{asked.Asked.Asked, asked.Asked.TheVariants.On, asked.Asked.TheVariants.Off, asked.Asked.TheVariants.Cut, asked.Asked.TheVariants.Call, act.Act.Act, act.Act.TheVariants.Refuse, act.Act.TheVariants.Tell, act.Act.TheVariants.Commits, said.Said.Said, said.GivenOut.GivenOut, said.GivenOut.TheVariants.Released, said.GivenOut.TheVariants.Printed}
use Rattle.node_acts.specs.Views.{Counting, View}
use Rattle.node_acts.specs.Said.{seen_plan, tells, with_sent, with_given}
use Rattle.node_acts.specs.Plans.{MayReply, after, after_told, with_commit, with_torn, done_plan}
use Rattle.node_acts.specs.Kinds.{view_in, node_plan, node_commit}
use Rattle.bench_abstraction.specs.Messages.{IsFew}
use Rattle.bench_abstraction.proofs.Sent.{NoBegin}
use Rattle.bench_abstraction.proofs.Steps.{Step, turns_on, turns_off, cuts}

module _ {S X C : Type 0} (n : Counting S X) (m : Node) (call_plan : C → Plan) (call_commit : C → Option (Commit × S)) (v : View S) where
  on_silent : (on : Bool) (k : ℕ) → (if on then refuse (r.OnAlready m) else told (r.Up m k) (entry.Up m k ∷ [])).commit ≡ None
  on_silent true k = refl
  on_silent false k = refl

  off_silent : (on : Bool) → (if on then told (r.Down m) (entry.Down m ∷ []) else refuse (r.OffNode m)).commit ≡ None
  off_silent true = refl
  off_silent false = refl

  -- the commit of what a node is asked is that of its plan
  pub plan_alike : ((c : C) → (call_plan c).commit ≡ option_map (λ (x : Commit × S). x.0) (call_commit c)) → (asked : Asked C)
      → (node_plan n m call_plan v asked).commit ≡ option_map (λ (x : Commit × S). x.0) (node_commit call_commit asked)
  plan_alike calls On = on_silent v.on (n.count v.state)
  plan_alike calls Off = off_silent v.on
  plan_alike calls (Cut k keep byte) = refl
  plan_alike calls (Call c) = calls c

  -- and the node's, which is on
  pub commit_own : (asked : Asked C) → ((c : C) → asked ≡ Call c → (x : Commit × S) → call_commit c ≡ Some x → (node_of x.0 ≡ m) × (v.on ≡ true)) → (x : Commit × S) → node_commit call_commit asked ≡ Some x
      → (node_of x.0 ≡ m) × (v.on ≡ true)
  commit_own On calls x is = absurd (none-some x is)
  commit_own Off calls x is = absurd (none-some x is)
  commit_own (Cut k keep byte) calls x is = absurd (none-some x is)
  commit_own (Call c) calls x is = calls c refl x is

-- it goes in one of the steps
pub stepped : {S X C : Type 0} (n : Counting S X) (m : Node) (seen : List Commit → S) (H : Ledger) (call_plan : C → Plan) (call_commit : C → Option (Commit × S)) (asked : Asked C)
    → ((c : C) → asked ≡ Call c → (x : Reply) → MayReply n m (view_in m seen H) (call_plan c) x → Step n m seen H x (call_commit c) (after (call_plan c) x H))
    → (x : Reply) → MayReply n m (view_in m seen H) (node_plan n m call_plan (view_in m seen H) asked) x
    → Step n m seen H x (node_commit call_commit asked) (after (node_plan n m call_plan (view_in m seen H) asked) x H)
stepped n m seen H call_plan call_commit On calls x may = turns_on n m seen H (is_on m H) x may
stepped n m seen H call_plan call_commit Off calls x may = turns_off n m seen H (is_on m H) x may
stepped n m seen H call_plan call_commit (Cut k keep byte) calls x may = cuts n m seen H x may
stepped n m seen H call_plan call_commit (Call c) calls x may = calls c refl x may

-- the entries of the plan begin no run, and with the commit there are few
pub record IsTame (p : Plan) : Type 0 where
  pub none : NoBegin p.after
  pub few : IsFew (p.after ++ with_commit p.commit [])

quiet_tame : (x : Reply) → IsTame (refuse x)
quiet_tame x = record { none = tt; few = tt }

pub few_after : (p : Plan) (t : ReplyClass) → IsTame p → IsFew (after_told p t [])
few_after p t tame = by t
  where
    torn : (o : Option Commit) (m : Node) → IsFew (with_torn o m [])
    torn None m = tt
    torn (Some c) m = (omega arith, tt)

    made_one : (o : Option Commit) → IsFew (with_commit o [])
    made_one None = tt
    made_one (Some c) = (omega arith, tt)

    by : (u : ReplyClass) → IsFew (after_told p u [])
    by Did = tame.few
    by Refused = tame.few
    by (Armed m) = tame.few
    by (CameOn m k) = (omega arith, tt)
    by (WentOff m) = tame.few
    by (LostPower m) = torn p.commit m
    by (Faulted m) = torn p.commit m
    by (WasDamaged m) = tame.few
    by (PrinterFailed j) = made_one p.commit
    by RatesFailed = tt

pub plan_tame : {S X C : Type 0} (n : Counting S X) (m : Node) (call_plan : C → Plan) (v : View S) → ((c : C) → IsTame (call_plan c)) → (asked : Asked C) → IsTame (node_plan n m call_plan v asked)
plan_tame n m call_plan v calls On = by v.on (n.count v.state)
  where
    by : (on : Bool) (k : ℕ) → IsTame (if on then refuse (r.OnAlready m) else told (r.Up m k) (entry.Up m k ∷ []))
    by true k = quiet_tame (r.OnAlready m)
    by false k = record { none = tt; few = (omega arith, tt) }
plan_tame n m call_plan v calls Off = by v.on
  where
    by : (on : Bool) → IsTame (if on then told (r.Down m) (entry.Down m ∷ []) else refuse (r.OffNode m))
    by true = record { none = tt; few = (omega arith, tt) }
    by false = quiet_tame (r.OffNode m)
plan_tame n m call_plan v calls (Cut k keep byte) = quiet_tame (r.CutSet m)
plan_tame n m call_plan v calls (Call c) = calls c

-- the plan of a call is tame
pub said_tame : {S X : Type 0} (n : Counting S X) (m : Node) (v : View S) (act : Act X Reply Said) → IsTame (seen_plan n m v act)
said_tame {X = X} n m v act = by_on v.on
  where
    said_none : (given : Option GivenOut) (sent : Option (List ℕ)) → NoBegin (with_sent sent ++ with_given given)
    said_none None None = tt
    said_none None (Some note) = tt
    said_none (Some (Released x)) None = tt
    said_none (Some (Released x)) (Some note) = tt
    said_none (Some (Printed x)) None = tt
    said_none (Some (Printed x)) (Some note) = tt

    said_few : (given : Option GivenOut) (sent : Option (List ℕ)) (o : Option Commit) → IsFew ((with_sent sent ++ with_given given) ++ with_commit o [])
    said_few None None None = tt
    said_few None None (Some c) = (omega arith, tt)
    said_few None (Some note) None = (omega arith, tt)
    said_few None (Some note) (Some c) = (omega arith, tt)
    said_few (Some (Released x)) None None = (omega arith, tt)
    said_few (Some (Released x)) None (Some c) = (omega arith, tt)
    said_few (Some (Released x)) (Some note) None = (omega arith, tt)
    said_few (Some (Released x)) (Some note) (Some c) = (omega arith, tt)
    said_few (Some (Printed x)) None None = (omega arith, tt)
    said_few (Some (Printed x)) None (Some c) = (omega arith, tt)
    said_few (Some (Printed x)) (Some note) None = (omega arith, tt)
    said_few (Some (Printed x)) (Some note) (Some c) = (omega arith, tt)

    by_worn : (worn : Bool) (c : Commit) (a : Said) → IsTame (if worn then refuse (r.Worn m) else made a.reply c (tells a))
    by_worn true c a = quiet_tame (r.Worn m)
    by_worn false c a = record { none = said_none a.given a.sent; few = said_few a.given a.sent (Some c) }

    by_act : (b : Act X Reply Said) → IsTame (done_plan n m (λ x. x) (λ a. a.reply) tells v.state b)
    by_act (Refuse x) = quiet_tame x
    by_act (Tell a) = record { none = said_none a.given a.sent; few = said_few a.given a.sent None }
    by_act (Commits c x a) = by_worn (n.is_worn v.state x) c a

    by_on : (on : Bool) → IsTame (if on then done_plan n m (λ x. x) (λ a. a.reply) tells v.state act else refuse (r.OffNode m))
    by_on true = by_act act
    by_on false = quiet_tame (r.OffNode m)
