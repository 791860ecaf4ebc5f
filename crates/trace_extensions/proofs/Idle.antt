-- A balance leaves the ledger as it was, whatever its reply is.
use Rattle.std.proofs.Common.{◌≡◌, inl, inr, ℕ, ℤ, List, [], Option, Some, None, refl, sym, ◌∙◌, ap, subst}
use Rattle.bench_base.specs.declared.{words.Node.Node, words.Node.TheVariants.Centre, ledger.Commit.Commit, ledger.Entry.Entry, events.Event.Event, events.Reply.Reply}
use Rattle.bench_base.specs.declared.events.Event.TheVariants as ev
use Rattle.bench_base.specs.declared.events.Reply.TheVariants as r
use Rattle.bench_base.specs.Cells.{is_worn}
use Rattle.bench_base.specs.Ledger.{Ledger, day_in, is_on, counted}
use Rattle.bench_base.specs.Nodes.{node_of}
use Rattle.bench_base.specs.Plans.{Plan, refuse}
use Rattle.bench_base.specs.Replies.{ReplyClass, Did, Refused, Armed, CameOn, WentOff, LostPower, Faulted, WasDamaged, PrinterFailed, RatesFailed, class_of}
use Rattle.bench_base.specs.Rules.{todays_rules}
use Rattle.bench_base.proofs.Rows.{chosen}
use Rattle.bench.specs.Steps.{with_open}
use Rattle.node_acts.specs.declared.{act.Act.Act, act.Act.TheVariants.Refuse, act.Act.TheVariants.Tell, act.Act.TheVariants.Commits, said.Said.Said}
use Rattle.node_acts.specs.Plans.{after_told}
use Rattle.node_acts.specs.Said.{saying, said_plan, tells}
use Rattle.centre_ledger.specs.Acts.{left_act}
use Rattle.centre_ledger.specs.Plans as centre
use Rattle.ledger_moves.specs.Tariffs.{Tariff}
use Rattle.ledger_moves.specs.Moves as moves
use Rattle.ledger_moves.specs.Moves.{plan, answer, at_node, unless_worn}
use Rattle.line_extensions.specs.Trace.{StepRecord}
use Rattle.script_replay.specs.Trace.{ledger_by}
use Rattle.trace_bench.specs.Judging.{taken_by}
use Rattle.trace_bench.specs.Stopping.{unanswered}
use Rattle.trace_runs.specs.Audits.{MayTell}
use Rattle.trace_runs.specs.Runs.{StopLeaves, was_done, is_open}
use Rattle.trace_extensions.specs.FitsStopped.{LeftByStep}
use Rattle.trace_extensions.specs.Places.{Place}
use Rattle.trace_extensions.proofs.Sure.{FailsAt, balance_firm, sure_reply}

-- it adds no entry, and no node comes on
record IsStill (p : Plan) : Type 0 where
  after : p.after ≡ []
  stays : (m : Node) (k : ℕ) → class_of p.reply ≡ CameOn m k → ⊥

off : (n : Node) → IsStill (refuse (r.OffNode n))
off n = record { after = refl; stays = λ m k is. cc (is) }

said : {X F A : Type 0} (refusal : F → Reply) (say : A → Said) (act : Act X F A) → ((x : F) (m : Node) (k : ℕ) → class_of (refusal x) ≡ CameOn m k → ⊥) → ((a : A) → tells (say a) ≡ [])
    → ((a : A) (m : Node) (k : ℕ) → class_of (say a).reply ≡ CameOn m k → ⊥) → IsStill (said_plan (saying refusal say act))
said refusal say (Refuse x) refused none done = record { after = refl; stays = λ m k is. refused x m k is }
said refusal say (Tell a) refused none done = record { after = none a; stays = λ m k is. done a m k is }
said refusal say (Commits c x a) refused none done = record { after = none a; stays = λ m k is. done a m k is }

at : (n : Node) (H : Ledger) (p : Plan) → IsStill p → IsStill (at_node n H p)
at n H p still = chosen IsStill (is_on n H) (unless_worn (counted H) p p.commit) (refuse (r.OffNode n)) (λ on. fresh p.commit) (λ none. off n)
  where
    fresh : (c : Option Commit) → IsStill (unless_worn (counted H) p c)
    fresh None = still
    fresh (Some c) = chosen IsStill (is_worn c (counted H)) (refuse (r.Worn (node_of c))) p (λ worn. record { after = refl; stays = λ m k is. cc (is) }) (λ whole. still)

dated : (p : ℤ → Plan) → ((today : ℤ) → IsStill (p today)) → (day : Option ℤ) → IsStill (moves.on_day p day)
dated p still None = record { after = refl; stays = λ m k is. cc (is) }
dated p still (Some today) = still today

module _ (τ : Tariff) (H : Ledger) (w : ℕ) (text : List ℕ) where
  abbrev P : Plan
  P = plan τ todays_rules H (ev.Balance w) text

  still : IsStill P
  unfolding plan
  still = dated _ (λ today. at Centre H _ (said r.CentreRefused (centre.told_balance w) (left_act w _ _) (λ x m k is. cc (is)) (λ left. refl) (λ left m k is. cc (is)))) (day_in H)

  no_commit : P.commit ≡ None
  no_commit = by P.commit (λ c is. (balance_firm τ H w text).own c is)
    where
      by : (o : Option Commit) → ((c : Commit) → o ≡ Some c → ⊥) → o ≡ None
      by None none = refl
      by (Some c) none = absurd (none c refl)

  by_class : (x : ReplyClass) → ((m : Node) (k : ℕ) → x ≡ CameOn m k → ⊥) → after_told P x H ≡ H
  by_class x stays =
      ap (λ (l : List Entry). after_told (record P { after = l }) x H) still.after
      ∙ ap (λ (o : Option Commit). after_told (record { reply = P.reply; commit = o; after = [] }) x H) no_commit ∙ alone x stays
    where
      alone : (y : ReplyClass) → ((m : Node) (k : ℕ) → y ≡ CameOn m k → ⊥) → after_told (refuse P.reply) y H ≡ H
      alone Did stays = refl
      alone Refused stays = refl
      alone (Armed m) stays = refl
      alone (CameOn m k) stays = absurd (stays m k refl)
      alone (WentOff m) stays = refl
      alone (LostPower m) stays = refl
      alone (Faulted m) stays = refl
      alone (WasDamaged m) stays = refl
      alone (PrinterFailed j) stays = refl
      alone RatesFailed stays = refl

  -- after the answer
  pub answered : (reply : Reply) → reply ≡ P.reply → after_told P (class_of reply) H ≡ H
  answered reply is = by_class (class_of reply) (λ m k came. still.stays m k (sym (ap class_of is) ∙ came))

  -- it has no commit that could be open
  pub not_opened : with_open P.commit H ≡ H
  not_opened = ap (λ (o : Option Commit). with_open o H) no_commit

-- what a balance leaves
pub balance_keeps : (τ : Tariff) (H : Ledger) (left : List ℕ) (d : StepRecord) (w : ℕ) → d.event ≡ ev.Balance w → MayTell τ H left d → ledger_by τ H d ≡ H
balance_keeps τ H left d w is may = elim (sure_reply τ H left d (inr (inr (w, is))) may) [
  | inl reply ↦
      ap (λ (e : Event). after_told (plan τ todays_rules H e d.text) (class_of d.reply) H) is
      ∙ answered τ H w d.text d.reply (reply ∙ ap (λ (e : Event). answer τ todays_rules H e d.text) is)
  | inr fails ↦ absurd (subst (λ (e : Event). FailsAt e d.reply) is fails)
]

-- and one of which nothing was answered
pub balance_left : (τ : Tariff) (H : Ledger) (e : Event) (w : ℕ) (left : List ℕ) (K : Ledger) → e ≡ ev.Balance w → StopLeaves τ H e left [] K → K ≡ H
balance_left τ H e w left K is (was_done reply may certain same) = absurd (certain (unanswered refl))
balance_left τ H e w left K is (is_open doubt same) =
    same ∙ ap (λ (x : Event). with_open (plan τ todays_rules H x (taken_by x (day_in H) Did left)).commit H) is ∙ not_opened τ H w _

-- and one that was asked for, and may have been done
pub balance_kept : (τ : Tariff) (at : Place) (e : Event) (w : ℕ) (K : Ledger) → e ≡ ev.Balance w → LeftByStep τ at e K → K ≡ at.ledger
balance_kept τ at e w K is (inl left) = balance_left τ at.ledger e w at.left K is left.1
balance_kept τ at e w K is (inr forged) = forged.1
