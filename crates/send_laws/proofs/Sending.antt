-- The message that is sent for a job has the postage of its order.
use Rattle.std.proofs.Common.{◌≡◌, ◌⊎◌, ℕ, ℤ, List, [], ◌∷◌, Option, Some, None, refl, sym, ap, inl, inr, arith}
use Rattle.std.specs.Prelude.{Contains}
use Rattle.bench_base.specs.declared.{words.Node.TheVariants.Host, refusals.HostRefusal.HostRefusal, ledger.Commit.Commit, ledger.Commit.TheVariants.Ordered, events.Reply.Reply}
use Rattle.bench_base.specs.declared.events.Event.TheVariants as ev
use Rattle.bench_base.specs.declared.events.Reply.TheVariants as r
use Rattle.bench_base.specs.Jobs.{Job, job_of}
use Rattle.bench_base.specs.Ledger.{Ledger, day_in, messages, is_on, counted}
use Rattle.bench_base.specs.Nodes.{node_of}
use Rattle.bench_base.specs.Plans.{Plan, refuse}
use Rattle.bench_base.specs.Cells.{is_worn}
use Rattle.bench_base.specs.Rules.{Rules}
use Rattle.node_acts.specs.declared.act.Act.TheVariants.{Tell}
use Rattle.node_acts.specs.Plans.{after, Fails}
use Rattle.node_acts.specs.Said.{said_plan}
use Rattle.psd_wire.specs.declared.message.Message.TheVariants as m
use Rattle.psd_wire.specs.Grammar.{spell}
use Rattle.psd_wire.proofs.Readings.{read_spell}
use Rattle.host_jobs.specs.declared.rows.JobRow.{JobRow}
use Rattle.host_jobs.specs.Answers.{send_answer, debit_of}
use Rattle.host_jobs.specs.Acts.{HostAct, unless, debit_note, sent_act}
use Rattle.host_jobs.specs.Plans as host
use Rattle.host_jobs.specs.Rows.{job_in}
use Rattle.host_jobs.proofs.ByRows.{shown_is}
use Rattle.ledger_terms.specs.Editions.{Editions}
use Rattle.ledger_moves.specs.Histories.{History}
use Rattle.ledger_moves.specs.Moves as moves
use Rattle.ledger_moves.specs.Moves.{Moves, plan, at_node, unless_worn, OtherUp, FailsToRead}
use Rattle.ledger_moves.specs.Tariffs.{Tariff}
use Rattle.bench_base.proofs.Rows.{chosen}
use Rattle.ledger_laws.proofs.Good.{Good}
use Rattle.ledger_laws.proofs.Grown.{Inv}
use Rattle.ledger_laws.proofs.Franked.{device_word}
use Rattle.ledger_laws.proofs.Whole.{whole_debit}
use Rattle.ledger_laws.proofs.HostPlans.{job_range}
use Rattle.ledger_laws.proofs.Histories.{histories, allows_same, carried_by}
use Rattle.send_laws.specs.Orders.{postage_in, ordered_postage, IsSentFor}
use Rattle.send_laws.proofs.Once.{one_order}

module _ (ρ : Rules) (H : Ledger) (good : Good ρ (counted H)) (j : ℕ) where
  -- where the plan's answer is that a message was sent, it is one for the job
  abbrev Tells : Plan → Type 0
  Tells q = (i k : ℕ) → q.reply ≡ r.SentDebit i k → IsSentFor j (after q (r.SentDebit i k) []) H

  refuses : (x : Reply) → ((i k : ℕ) → x ≡ r.SentDebit i k → ⊥) → Tells (refuse x)
  refuses x other i k is = absurd (other i k is)

  no_host : (x : HostRefusal) → Tells (refuse (r.HostRefused x))
  no_host x = refuses (r.HostRefused x) (λ i k is. cc)

  at : (q : Plan) → Tells q → Tells (at_node Host H q)
  at q tells = chosen Tells (is_on Host H) (unless_worn (counted H) q q.commit) (refuse (r.OffNode Host)) (λ on. go q.commit) (λ off. refuses (r.OffNode Host) (λ i k is. cc))
    where
      go : (w : Option Commit) → Tells (unless_worn (counted H) q w)
      go None = tells
      go (Some c) = chosen Tells (is_worn c (counted H)) (refuse (r.Worn (node_of c))) q (λ worn. refuses (r.Worn (node_of c)) (λ i k is. cc)) (λ fresh. tells)

  -- the plan of an act that says a message is sent
  abbrev TellsBy : ℕ → HostAct (List ℕ) → Type 0
  TellsBy l act = Tells (said_plan (host.says (host.told_sent j l) act))

  sent : (l : ℕ) (o : Option JobRow) → host.shown_job j (counted H) ≡ o → TellsBy l (sent_act o)
  sent l None at = no_host _
  sent l (Some x) at = by (send_answer (Some x.state))
    where
      by : (o : Option HostRefusal) → TellsBy l (unless o (Tell (debit_note x)))
      by (Some y) = no_host y
      by None = λ i k same.
          let is : job_of j (counted H) ≡ Some (job_in x) = (shown_is j (counted H) x at).job in
          let b = job_in x in
          let it = job_range ρ j b (counted H) good is in
          let q = debit_of b in
          record {
            bytes = spell (m.Debit q) [];
            debit = q;
            only = refl;
            reads = read_spell (m.Debit q) [] (whole_debit q (device_word b.device it.device) it.piece.1 (omega (arith, it.postage.1)) it.class);
            postage = ap (λ (o : Option Job). postage_in o) is;
          }

  dated : (τ : Tariff) (text : List ℕ) (day : Option ℤ) → Tells (moves.on_day (moves.plan_on τ ρ H (ev.Send j) text) day)
  dated τ text None = refuses r.NoDay (λ i k is. cc)
  dated τ text (Some today) = at _ (sent (messages H) (host.shown_job j (counted H)) refl)

  tells : (τ : Tariff) (text : List ℕ) → Tells (plan τ ρ H (ev.Send j) text)
  unfolding plan
  tells τ text = dated τ text (day_in H)

  pub by_move : (τ : Tariff) (text : List ℕ) (i k : ℕ) → Moves τ ρ H (ev.Send j) text (r.SentDebit i k) → IsSentFor j (after (plan τ ρ H (ev.Send j) text) (r.SentDebit i k) []) H
  by_move τ text i k moved = go moved.1
    where
      go : ((r.SentDebit i k ≡ (plan τ ρ H (ev.Send j) text).reply)
          ⊎ (OtherUp (plan τ ρ H (ev.Send j) text).reply (r.SentDebit i k) H
          ⊎ (Fails (plan τ ρ H (ev.Send j) text) (r.SentDebit i k) ⊎ FailsToRead (ev.Send j) (r.SentDebit i k) (day_in H)))) → IsSentFor j (after (plan τ ρ H (ev.Send j) text) (r.SentDebit i k) []) H
      go (inl same) = tells τ text i k (sym same)
      go (inr (inl up)) = absurd (let more = up.more in cc)
      go (inr (inr (inl fails))) = absurd fails
      go (inr (inr (inr unread))) = absurd (let is = unread.reply_is in cc)

-- == by histories ==

module _ (τ : Tariff) (ρ : Rules) (ρs : List Rules) (H : Ledger) (E : Editions (ρ ∷ ρs)) (h : History τ (ρ ∷ ρs) H) where
  kept : Inv ρ H
  kept = histories τ (ρ ∷ ρs) E H h ρ (carried_by ρs ρ E.0, allows_same ρ)

  -- the message that was sent for a job
  pub sent_for : (j i k : ℕ) (text : List ℕ) → Moves τ ρ H (ev.Send j) text (r.SentDebit i k) → IsSentFor j (after (plan τ ρ H (ev.Send j) text) (r.SentDebit i k) []) H
  sent_for j i k text moved = by_move ρ H kept.good j τ text i k moved

  -- a job's order is the one that it has
  pub order_of : (j d p a k : ℕ) → Contains (counted H) (Ordered j d p a k) → ordered_postage j (counted H) ≡ Some a
  order_of j d p a k within = one_order ρ (counted H) kept.good j d p a k within
