-- A report that ends before the line end of the answer to an event: which prefix of an answer it may end with, and what the auditor has after it.
use Rattle.std.specs.Prelude.{◌≡◌, ◌⊎◌, ℕ, ◌+◌, List, [], ◌++◌, Option, Some, None, Result, Ok, Err}
use Rattle.bench_base.specs.declared.{words.Node.Node, events.Event.Event, events.Reply.Reply}
use Rattle.bench_base.specs.declared.events.Reply.TheVariants as r
use Rattle.bench_base.specs.Replies.{Did}
use Rattle.bench_base.specs.Rules.{todays_rules}
use Rattle.bench_base.specs.Ledger.{Ledger, day_in}
use Rattle.ledger_moves.specs.Tariffs.{Tariff}
use Rattle.ledger_moves.specs.Moves.{answer}
use Rattle.script_text.specs.Texts.{text_of, IsWholeReply}
use Rattle.trace_bench.specs.declared.{judging.Finding.Finding, judging.Finding.TheVariants.Wrong, judging.Finding.TheVariants.Memory}
use Rattle.trace_bench.specs.Judging.{MayGet, ledger_with, taken_by}
use Rattle.trace_bench.specs.Seeing.{Audit, Sees}

-- they are a prefix of the bytes of the text: no byte, the first ones or all
abbrev pub IsPrefixOf : List ℕ → List ℕ → Type 0
IsPrefixOf prefix text = (more : List ℕ) × (text ≡ prefix ++ more)

-- At ledger H, where these rates are left, the report ends with these bytes of the line for this event.
module _ (τ : Tariff) (H : Ledger) (e : Event) (left prefix : List ℕ) where
  -- the event may get this reply, its numbers are in range, and its line begins so
  pub record MayBegin (reply : Reply) : Type 0 where
    pub moves : MayGet τ H e left prefix reply
    pub whole : IsWholeReply reply
    pub begins : IsPrefixOf prefix (text_of reply)

  -- this node may have failed in the event
  abbrev pub MayFail : Node → Type 0
  MayFail m = MayBegin (r.Power m) ⊎ MayBegin (r.Fault m)

  -- a node may have come on without its open commit, or with it
  abbrev pub MayComeOn : Type 0
  MayComeOn = (m : Node) × (commits : ℕ) × MayBegin (r.Up m commits) × MayBegin (r.Up m (commits + 1))

  -- WHETHER THE EVENT WAS DONE IS IN DOUBT: the report has nothing of the answer; or what it has may be a failure of a node, or either of two `up`s.
  pub data IsInDoubt : Type 0 where
    unanswered : prefix ≡ [] → IsInDoubt
    failed : (m : Node) → MayFail m → IsInDoubt
    either_up : MayComeOn → IsInDoubt

  -- WHAT THE AUDITOR HAS AFTER THE STOP is what the ledger shows if the event was done with a reply that begins so, with what it sent and released.
  -- If that is in doubt, and a node may have failed, it is the ledger in which the node lost its power: it is off, and its commit is open until it
  -- comes on. If no node may have failed, the event commits nothing, and the auditor has what it had.
  pub data Leaves (a : Audit) : Type 0 where
    done : (reply : Reply) → MayBegin reply → (IsInDoubt → ⊥) → Sees a (ledger_with τ H e left prefix reply) → Leaves a
    torn : (m : Node) → MayFail m → Sees a (ledger_with τ H e left prefix (r.Power m)) → Leaves a
    rests : IsInDoubt → ((m : Node) → MayFail m → ⊥) → Sees a H → Leaves a

  -- the reply with which the event was done, or none where that is in doubt
  abbrev pub IsDoneWith : Option Reply → Type 0
  IsDoneWith (Some reply) = MayBegin reply × (IsInDoubt → ⊥)
  IsDoneWith None = IsInDoubt

  -- they are the prefix of the line of a reply that the event may get
  pub record IsBegun (a : Audit) : Type 0 where
    pub reply : Reply
    pub may : MayBegin reply
    pub leaves : Leaves a

  -- they are the prefix of the line of none; this was the answer, and the auditor has what it had
  pub record IsUnbegun (a : Audit) (due : Reply) : Type 0 where
    pub due_is : due ≡ answer τ todays_rules H e (taken_by e (day_in H) Did left)
    pub none : (reply : Reply) → MayBegin reply → ⊥
    pub rests : Sees a H

  -- what is found of them
  abbrev pub IsStopped : Audit → Result (Option Reply) Finding → Type 0
  IsStopped a (Ok told) = IsBegun a × IsDoneWith told
  IsStopped a (Err (Wrong due)) = IsUnbegun a due
  IsStopped a (Err Memory) = Unit {0}
