-- What a node says if a call of it is done, and an act with its answers in words, for any kind of node.
use Rattle.std.specs.Prelude.{◌≡◌, ℕ, ℤ, List, [], ◌∷◌, ◌++◌, Option, Some, None}
use Rattle.bench_base.specs.declared.{words.Node.Node, ledger.Commit.Commit, ledger.Entry.Entry, events.Reply.Reply}
use Rattle.bench_base.specs.declared.ledger.Entry.TheVariants as entry
use Rattle.bench_base.specs.Plans.{Plan}
use Rattle.bench_base.specs.Ledger.{Ledger}
use Rattle.bench_base.specs.Replies.{Did, Refused, class_of}
use Rattle.node_acts.specs.declared.{act.Act.Act, act.Act.TheVariants.Refuse, act.Act.TheVariants.Tell, act.Act.TheVariants.Commits, act.Outcome.Outcome, said.Said.Said, said.GivenOut.GivenOut, said.GivenOut.TheVariants.Released, said.GivenOut.TheVariants.Printed}
use Rattle.node_acts.specs.Plans.{plan_of, done_plan, when_on, call_reply, call_entries}
use Rattle.node_acts.specs.Views.{Counting, View}
use Rattle.node_acts.specs.Acts.{commit_of}
use Rattle.node_acts.specs.Kinds.{Kind}

-- a reply alone; with a mark that leaves the node; with a message that is sent
abbrev pub replies : Reply → Said
replies reply = record { reply = reply; given = None; sent = None }

-- a reply that gives something out
abbrev pub gives : Reply → GivenOut → Said
gives reply x = record { reply = reply; given = Some x; sent = None }

-- a reply with a message that is sent
abbrev pub sends : Reply → List ℕ → Said
sends reply note = record { reply = reply; given = None; sent = Some note }

-- == what is reported after the commit, the newest first: a mark leaves the node before the message that carries it is sent ==

-- the entry of what was given out
abbrev pub with_given : Option GivenOut → List Entry
with_given None = []
with_given (Some (Released x)) = entry.Released x.device x.piece x.mark ∷ []
with_given (Some (Printed x)) = entry.Printed x.job x.mark ∷ []

-- the entry of what was sent
abbrev pub with_sent : Option (List ℕ) → List Entry
with_sent None = []
with_sent (Some note) = entry.Sent note ∷ []

-- both
abbrev pub tells : Said → List Entry
tells s = with_sent s.sent ++ with_given s.given

-- the act, with its refusals as replies and its answers in words
abbrev pub saying : {X F A : Type 0} → (F → Reply) → (A → Said) → Act X F A → Act X Reply Said
saying refusal say (Refuse x) = Refuse (refusal x)
saying refusal say (Tell a) = Tell (say a)
saying refusal say (Commits c x a) = Commits c x (say a)

-- == a call, by such an act ==

-- it refuses, or what was asked for was done
abbrev pub IsPlain : {X : Type 0} → Act X Reply Said → Type 0
IsPlain (Refuse x) = class_of x ≡ Refused
IsPlain (Tell a) = class_of a.reply ≡ Did
IsPlain (Commits c x a) = class_of a.reply ≡ Did

-- what the ledger plans
abbrev pub said_plan : {X : Type 0} → Act X Reply Said → Plan
said_plan act = plan_of (λ x. x) (λ a. a.reply) tells act

-- the plan of the call by what is seen of the node
abbrev pub seen_plan : {S X : Type 0} → Counting S X → Node → View S → Act X Reply Said → Plan
seen_plan n m v act = when_on m v (done_plan n m (λ x. x) (λ a. a.reply) tells v.state act)

-- what the call is reported as, and what is added, by what it came to
abbrev pub said_reply : Node → Outcome Reply Said → Reply
said_reply m outcome = call_reply m (λ x. x) (λ a. a.reply) outcome

abbrev pub said_entries : {X : Type 0} → Node → Act X Reply Said → Outcome Reply Said → Ledger
said_entries m act outcome = call_entries m tells act outcome

-- the commit that it makes, if it makes one
abbrev pub planned_commit : {X : Type 0} → Act X Reply Said → Option Commit
planned_commit act = (said_plan act).commit

-- the kind of nodes with these acts for its calls, by the record of the node
abbrev pub kind_by : {N S X C : Type 0} → Counting S X → (N → Node) → (N → List Commit → S) → (N → ℤ → C → S → Act X Reply Said) → Kind N S C
kind_by n node seen act = record {
  seen = seen;
  plan = λ d today v c. seen_plan n (node d) v (act d today c v.state);
  commit = λ d today v c. commit_of n v (act d today c v.state);
}
