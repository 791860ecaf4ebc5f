-- A step in which a node failed: what it leaves, and that another failure of that node may come in its place.
use Rattle.std.proofs.Common.{◌≡◌, ◌⊎◌, inl, inr, ℕ, List, [], ◌∷◌, Option, Some, None, refl, sym, ◌∙◌, ap, subst}
use Rattle.bench_base.specs.declared.{words.Node.Node, words.Node.TheVariants.Host, words.Node.TheVariants.Verifier, ledger.Commit.Commit, events.Event.Event, events.Reply.Reply}
use Rattle.bench_base.specs.declared.events.Reply.TheVariants as r
use Rattle.bench_base.specs.declared.ledger.Entry.TheVariants as entry
use Rattle.bench_base.specs.Ledger.{Ledger, day_in}
use Rattle.bench_base.specs.Nodes.{node_of}
use Rattle.bench_base.specs.Plans.{Plan}
use Rattle.bench_base.specs.Replies.{Did, class_of}
use Rattle.bench_base.specs.Rules.{todays_rules}
use Rattle.bench.specs.Steps.{with_open}
use Rattle.node_acts.specs.Plans.{MayFail, Fails, after, with_torn}
use Rattle.ledger_moves.specs.Tariffs.{Tariff}
use Rattle.ledger_moves.specs.Moves.{Moves, plan}
use Rattle.script_text.specs.Texts.{text_of, IsWholeReply}
use Rattle.line_extensions.specs.Trace.{StepRecord, done}
use Rattle.script_replay.specs.Trace.{ledger_by}
use Rattle.trace_bench.specs.Judging.{taken_by}
use Rattle.trace_bench.specs.Prefixes.{IsFailure}
use Rattle.trace_bench.specs.Stopping.{unanswered}
use Rattle.trace_runs.specs.Audits.{MayTell}
use Rattle.trace_runs.specs.Runs.{opened, is_open}
use Rattle.trace_extensions.specs.FitsStopped.{LeftByStep}
use Rattle.trace_extensions.specs.Models.{IsSure}
use Rattle.trace_extensions.proofs.OnlySteps.{sure_taken}
use Rattle.trace_extensions.proofs.Sure.{IsFirm, answer_fine, balance_firm, scan_firm, send_firm}

-- whether a node failed
pub failing : (x : Reply) → ((n : Node) × IsFailure x n) ⊎ ((n : Node) → IsFailure x n → ⊥)
failing (r.Power n) = inl (n, inl refl)
failing (r.Fault n) = inl (n, inr refl)
failing _ = inr (λ n is. elim is [
  | inl power ↦ cc
  | inr fault ↦ cc
])

-- a failure of a node is none of another
one_node : (x : Reply) (m n : Node) → IsFailure x m → IsFailure x n → m ≡ n
one_node x m n (inl is) (inl too) = cc (is, too)
one_node x m n (inl is) (inr too) = absurd (cc (is, too))
one_node x m n (inr is) (inl too) = absurd (cc (is, too))
one_node x m n (inr is) (inr too) = cc (is, too)

-- the step with another failure
abbrev pub with_failure : StepRecord → Reply → StepRecord
with_failure d y = done d.event d.text y d.printed

module _ (τ : Tariff) (H : Ledger) where
  -- a reply that is a failure comes if the plan may fail so
  plan_fails : (e : Event) (text : List ℕ) (x : Reply) (n : Node) → IsFailure x n → Moves τ todays_rules H e text x → MayFail (plan τ todays_rules H e text) n
  plan_fails e text x n is (whole, inl answers) = absurd (answer_fine τ H e text n (subst (λ (y : Reply). IsFailure y n) answers is))
  plan_fails e text x n (inl is) (whole, inr (inl up)) = absurd (cc (is, up.more))
  plan_fails e text x n (inr is) (whole, inr (inl up)) = absurd (cc (is, up.more))
  plan_fails e text x n (inl is) (whole, inr (inr (inl fails))) = subst (λ (y : Reply). Fails (plan τ todays_rules H e text) y) is fails
  plan_fails e text x n (inr is) (whole, inr (inr (inl fails))) = subst (λ (y : Reply). Fails (plan τ todays_rules H e text) y) is fails
  plan_fails e text x n (inl is) (whole, inr (inr (inr unread))) = absurd (cc (is, unread.reply_is))
  plan_fails e text x n (inr is) (whole, inr (inr (inr unread))) = absurd (cc (is, unread.reply_is))

  -- its commit, if it has one, is open then
  fails_to : (p : Plan) (x : Reply) (n : Node) → IsFailure x n → after p x H ≡ with_torn p.commit n H
  fails_to p x n (inl is) = ap (λ (y : Reply). after p y H) is
  fails_to p x n (inr is) = ap (λ (y : Reply). after p y H) is

  torn_open : (p : Plan) (n : Node) → ((c : Commit) → p.commit ≡ Some c → node_of c ≡ n) → with_torn p.commit n H ≡ with_open p.commit H
  torn_open p n own = by p.commit refl
    where
      by : (o : Option Commit) → p.commit ≡ o → with_torn o n H ≡ with_open o H
      by None is = refl
      by (Some c) is = ap (λ (m : Node). entry.Torn m c ∷ H) (sym (own c is))

  -- it is a commit of the node that fails
  firm_own : (p : Plan) (n k : Node) → IsFirm (λ m. m ≡ k) p → MayFail p n → (c : Commit) → p.commit ≡ Some c → node_of c ≡ n
  firm_own p n k firm (inl up) c is = absurd (firm.no_up n up.0 up.1)
  firm_own p n k firm (inr made) c is = firm.own c is ∙ sym (firm.own made.0 made.1) ∙ made.2

  sure_own : (e : Event) (text : List ℕ) (n : Node) → IsSure e → MayFail (plan τ todays_rules H e text) n → (c : Commit) → (plan τ todays_rules H e text).commit ≡ Some c → node_of c ≡ n
  sure_own e text n (inl scans) fails c is =
      subst (λ (f : Event). MayFail (plan τ todays_rules H f text) n → (plan τ todays_rules H f text).commit ≡ Some c → node_of c ≡ n) (sym scans.2)
      (λ fails is. firm_own _ n Verifier (scan_firm τ H scans.0 scans.1 text) fails c is) fails is
  sure_own e text n (inr (inl sends)) fails c is =
      subst (λ (f : Event). MayFail (plan τ todays_rules H f text) n → (plan τ todays_rules H f text).commit ≡ Some c → node_of c ≡ n) (sym sends.1)
      (λ fails is. firm_own _ n Host (send_firm τ H sends.0 text) fails c is) fails is
  sure_own e text n (inr (inr asks)) fails c is =
      subst (λ (f : Event). MayFail (plan τ todays_rules H f text) n → (plan τ todays_rules H f text).commit ≡ Some c → node_of c ≡ n) (sym asks.1)
      (λ fails is. absurd ((balance_firm τ H asks.0 text).own c is)) fails is

  -- A FAILURE LEAVES what a stop in the step may leave
  pub failed_left : (left : List ℕ) (d : StepRecord) (n : Node) → IsSure d.event → MayTell τ H left d → IsFailure d.reply n → LeftByStep τ (record { ledger = H; left = left }) d.event (ledger_by τ H d)
  failed_left left d n sure may fails =
      let free : d.text ≡ [] = may.takes ∙ sure_taken d.event sure (day_in H) (class_of d.reply) left in
      let none : taken_by d.event (day_in H) Did left ≡ [] = sure_taken d.event sure (day_in H) Did left in
      let p : Plan = plan τ todays_rules H d.event d.text in
      let leaves : ledger_by τ H d ≡ opened τ H d.event left [] =
      fails_to p d.reply n fails ∙ torn_open p n (λ c is. sure_own d.event d.text n sure (plan_fails d.event d.text d.reply n fails may.moves) c is)
      ∙ ap (λ (t : List ℕ). with_open (plan τ todays_rules H d.event t).commit H) (free ∙ sym none) in
      inl ((d, refl, may, (text_of d.reply, refl)), is_open (unanswered refl) leaves)

  whole_failure : (x y : Reply) (n : Node) → IsFailure x n → IsFailure y n → IsWholeReply x → IsWholeReply y
  whole_failure x y n (inl is) (inl too) whole = subst (λ (z : Reply). IsWholeReply z) (is ∙ sym too) whole
  whole_failure x y n (inl is) (inr too) whole = subst (λ (z : Reply). IsWholeReply z) (sym too) (same n (subst (λ (z : Reply). IsWholeReply z) is whole))
    where
      same : (n : Node) → IsWholeReply (r.Power n) → IsWholeReply (r.Fault n)
      same n whole = whole
  whole_failure x y n (inr is) (inl too) whole = subst (λ (z : Reply). IsWholeReply z) (sym too) (same n (subst (λ (z : Reply). IsWholeReply z) is whole))
    where
      same : (n : Node) → IsWholeReply (r.Fault n) → IsWholeReply (r.Power n)
      same n whole = whole
  whole_failure x y n (inr is) (inr too) whole = subst (λ (z : Reply). IsWholeReply z) (is ∙ sym too) whole

  failure_comes : (e : Event) (text : List ℕ) (y : Reply) (n : Node) → IsFailure y n → MayFail (plan τ todays_rules H e text) n → Fails (plan τ todays_rules H e text) y
  failure_comes e text y n (inl is) fails = subst (λ (z : Reply). Fails (plan τ todays_rules H e text) z) (sym is) fails
  failure_comes e text y n (inr is) fails = subst (λ (z : Reply). Fails (plan τ todays_rules H e text) z) (sym is) fails

  -- IT MAY COME IN ITS PLACE, and leaves the same
  pub other_failure : (left : List ℕ) (d : StepRecord) (y : Reply) (n : Node) → IsSure d.event → MayTell τ H left d → IsFailure d.reply n → IsFailure y n
      → MayTell τ H left (with_failure d y) × (ledger_by τ H (with_failure d y) ≡ ledger_by τ H d)
  other_failure left d y n sure may fails too =
      let p : Plan = plan τ todays_rules H d.event d.text in (
        record {
          unforged = may.unforged;
          moves = (may.moves.0, inr (inr (inl (failure_comes d.event d.text y n too (plan_fails d.event d.text d.reply n fails may.moves)))));
          whole = whole_failure d.reply y n fails too may.whole;
          takes = may.takes ∙ sure_taken d.event sure (day_in H) (class_of d.reply) left ∙ sym (sure_taken d.event sure (day_in H) (class_of y) left);
        },
        fails_to p y n too ∙ sym (fails_to p d.reply n fails),
      )
