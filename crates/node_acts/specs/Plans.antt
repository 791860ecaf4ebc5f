-- The plan of an event of one node by its act, and how the call is reported. The node is m, of any kind.
use Rattle.std.specs.Prelude.{◌≡◌, ◌⊎◌, ℕ, ◌+◌, List, [], ◌∷◌, ◌++◌, Option, Some, None, IsSome, if◌then◌else◌}
use Rattle.bench_base.specs.declared.{words.Node.Node, ledger.Commit.Commit, ledger.Entry.Entry, events.Reply.Reply}
use Rattle.bench_base.specs.declared.ledger.Entry.TheVariants as entry
use Rattle.bench_base.specs.declared.events.Reply.TheVariants as r
use Rattle.bench_base.specs.Nodes.{node_of}
use Rattle.bench_base.specs.Plans.{Plan, refuse, made, told}
use Rattle.bench_base.specs.Ledger.{Ledger}
use Rattle.bench_base.specs.Replies.{ReplyClass, Did, Refused, Armed, CameOn, WentOff, LostPower, Faulted, WasDamaged, PrinterFailed, RatesFailed, class_of}
use Rattle.node_acts.specs.declared.{act.Act.Act, act.Act.TheVariants.Refuse, act.Act.TheVariants.Tell, act.Act.TheVariants.Commits, act.Outcome.Outcome}
use Rattle.node_acts.specs.declared.act.Outcome.TheVariants as o
use Rattle.node_acts.specs.Views.{Counting, View, up, stopped, torn, committed}
use Rattle.node_acts.specs.Acts.{is_full, OfCommit}

-- == the plan ==

-- by how the node refuses, how it replies if it is done, and the entries then, the newest first
abbrev pub plan_of : {X F A : Type 0} → (F → Reply) → (A → Reply) → (A → List Entry) → Act X F A → Plan
plan_of refusal reply tell (Refuse x) = refuse (refusal x)
plan_of refusal reply tell (Tell a) = told (reply a) (tell a)
plan_of refusal reply tell (Commits c x a) = made (reply a) c (tell a)

-- == entries ==

-- the ledger with a commit, if there is one
abbrev pub with_commit : Option Commit → Ledger → Ledger
with_commit None H = H
with_commit (Some x) H = entry.Commit x ∷ H

-- the ledger with a commit in doubt, if there is one
abbrev pub with_torn : Option Commit → Node → Ledger → Ledger
with_torn None m H = H
with_torn (Some x) m H = entry.Torn m x ∷ H

-- the ledger after an event of this plan, by what its reply reports
abbrev pub after_told : Plan → ReplyClass → Ledger → Ledger
after_told p Did H = p.after ++ with_commit p.commit H
after_told p Refused H = p.after ++ with_commit p.commit H
after_told p (Armed m) H = p.after ++ with_commit p.commit H
after_told p (CameOn m k) H = entry.Up m k ∷ H
after_told p (WentOff m) H = p.after ++ with_commit p.commit H
after_told p (LostPower m) H = with_torn p.commit m H
after_told p (Faulted m) H = with_torn p.commit m H
after_told p (WasDamaged m) H = p.after ++ with_commit p.commit H
after_told p (PrinterFailed j) H = with_commit p.commit H
after_told p RatesFailed H = H

-- the ledger after a reply to the plan: a commit that failed is open, and adds no entry; a printer that failed leaves the commit alone
abbrev pub after : Plan → Reply → Ledger → Ledger
after p reply H = after_told p (class_of reply) H

-- == which failures may replace the plan's reply ==

-- the node boots, or commits
abbrev pub MayFail : Plan → Node → Type 0
MayFail p m = ((k : ℕ) × (p.reply ≡ r.Up m k)) ⊎ ((x : Commit) × (p.commit ≡ Some x) × (node_of x ≡ m))

-- the reply reports a failure that this plan can have
abbrev pub FailsTold : Plan → ReplyClass → Type 0
FailsTold p Did = ⊥
FailsTold p Refused = ⊥
FailsTold p (Armed m) = ⊥
FailsTold p (CameOn m k) = ⊥
FailsTold p (WentOff m) = ⊥
FailsTold p (LostPower m) = MayFail p m
FailsTold p (Faulted m) = MayFail p m
FailsTold p (WasDamaged m) = ⊥
FailsTold p (PrinterFailed j) = p.reply ≡ r.Printed j
FailsTold p RatesFailed = ⊥

-- the reply is a failure that may come in the place of the plan's reply: of power or storage if a node starts or commits, or of the printer
abbrev pub Fails : Plan → Reply → Type 0
Fails p reply = FailsTold p (class_of reply)

-- == what a call is reported as ==

abbrev pub call_reply : {F A : Type 0} → Node → (F → Reply) → (A → Reply) → Outcome F A → Reply
call_reply m refusal reply o.Off = r.OffNode m
call_reply m refusal reply (o.Refused x) = refusal x
call_reply m refusal reply (o.Done a) = reply a
call_reply m refusal reply o.Worn = r.Worn m
call_reply m refusal reply (o.Power c) = r.Power m
call_reply m refusal reply (o.Fault c) = r.Fault m

-- what is added where the act was done, the newest first
abbrev pub act_entries : {X F A : Type 0} → (A → List Entry) → Act X F A → Ledger
act_entries tell (Refuse x) = []
act_entries tell (Tell a) = tell a
act_entries tell (Commits c x a) = tell a ++ entry.Commit c ∷ []

-- what is added by what it came to
abbrev pub call_entries : {X F A : Type 0} → Node → (A → List Entry) → Act X F A → Outcome F A → Ledger
call_entries m tell act o.Off = []
call_entries m tell act (o.Refused x) = []
call_entries m tell act (o.Done a) = act_entries tell act
call_entries m tell act o.Worn = []
call_entries m tell act (o.Power c) = entry.Torn m c ∷ []
call_entries m tell act (o.Fault c) = entry.Torn m c ∷ []

-- the commit of the act, if it makes one, is the node's
abbrev pub IsOfNode : {X F A : Type 0} → Node → Act X F A → Type 0
IsOfNode m = OfCommit (λ c x. node_of c ≡ m)

-- == by what is seen of the node ==

abbrev pub when_on : {S : Type 0} → Node → View S → Plan → Plan
when_on m v p = if v.on then p else refuse (r.OffNode m)

module _ {S X : Type 0} (n : Counting S X) where
  -- the plan of a node that is on, by its act
  abbrev pub done_plan : {F A : Type 0} → Node → (F → Reply) → (A → Reply) → (A → List Entry) → S → Act X F A → Plan
  done_plan m refusal reply tell s act = if is_full n s act then refuse (r.Worn m) else plan_of refusal reply tell act

  abbrev pub on_plan : Node → View S → Plan
  on_plan m v = if v.on then refuse (r.OnAlready m) else told (r.Up m (n.count v.state)) (entry.Up m (n.count v.state) ∷ [])

  -- it comes on with one commit more than the plan says, which is its open one
  abbrev pub IsOtherUp : Node → View S → Plan → Reply → Type 0
  IsOtherUp m v p reply = (p.reply ≡ r.Up m (n.count v.state)) × IsSome v.next × (reply ≡ r.Up m (n.count v.state + 1))

  -- the replies that an event of this plan may get
  abbrev pub MayReply : Node → View S → Plan → Reply → Type 0
  MayReply m v p reply = (reply ≡ p.reply) ⊎ (IsOtherUp m v p reply ⊎ Fails p reply)

  abbrev pub view_told : ReplyClass → Option (Commit × S) → View S → View S
  view_told Did (Some x) v = committed x.1 v
  view_told Did None v = v
  view_told Refused made v = v
  view_told (Armed m) made v = v
  view_told (CameOn m k) made v = up n k v
  view_told (WentOff m) made v = stopped v
  view_told (LostPower m) (Some x) v = torn x.1 v
  view_told (LostPower m) None v = v
  view_told (Faulted m) (Some x) v = torn x.1 v
  view_told (Faulted m) None v = v
  view_told (WasDamaged m) made v = v
  view_told (PrinterFailed j) (Some x) v = committed x.1 v
  view_told (PrinterFailed j) None v = v
  view_told RatesFailed made v = v

  -- the node after an event that got this reply, which makes this commit if it makes one
  abbrev pub view_after : Reply → Option (Commit × S) → View S → View S
  view_after reply made v = view_told (class_of reply) made v
