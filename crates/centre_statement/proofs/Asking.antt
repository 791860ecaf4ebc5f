-- What it comes to that a balance is asked for.
use Rattle.std.proofs.Common.{◌≡◌, ◌≢◌, ◌⊎◌, inl, inr, ℕ, ℤ, Bool, true, false, List, Option, Some, None, refl, sym, subst, ◌∙◌}
use Rattle.std.specs.Prelude.{if◌then◌else◌}
use Rattle.bench_base.specs.declared.{words.Node.Node, words.Node.TheVariants.Centre, ledger.Commit.Commit, events.Reply.Reply}
use Rattle.bench_base.specs.declared.refusals.CentreRefusal.TheVariants as no
use Rattle.bench_base.specs.declared.events.Event.TheVariants as ev
use Rattle.bench_base.specs.declared.events.Reply.TheVariants as r
use Rattle.bench_base.specs.Ledger.{Ledger, day_in, is_on, counted}
use Rattle.bench_base.specs.Plans.{Plan, refuse}
use Rattle.bench_base.specs.Ranges.{IsCustomer}
use Rattle.bench_base.specs.Replies.{ReplyClass, LostPower, Faulted, PrinterFailed, class_of}
use Rattle.bench_base.specs.Rules.{todays_rules}
use Rattle.node_acts.specs.Plans.{after, after_told, with_commit, with_torn, FailsTold}
use Rattle.node_acts.specs.Said.{said_plan}
use Rattle.centre_ledger.specs.Acts.{left_act}
use Rattle.centre_ledger.specs.Plans.{says, told_balance}
use Rattle.centre_ledger.specs.Records.{customer_row_with}
use Rattle.ledger_moves.specs.Moves as moves
use Rattle.ledger_moves.specs.Moves.{Moves, plan, unless_worn}
use Rattle.ledger_moves.specs.Tariffs.{Tariff}
use Rattle.ledger_terms.specs.Centres.{balance, opened}
use Rattle.bench_base.proofs.Rows.{chosen}

module _ (w : ℕ) (H : Ledger) where
  -- the reply is the customer's balance, and the centre is on; or it is no balance of the customer's
  abbrev pub IsItsBalance : Reply → Type 0
  IsItsBalance reply = ((reply ≡ r.Balance w (balance w (counted H))) × (is_on Centre H ≡ true)) ⊎ ((b : ℕ) → reply ≢ r.Balance w b)

  -- the plan adds nothing, and reports that
  record Asks (p : Plan) : Type 0 where
    silent : p.commit ≡ None
    plain : (K : Ledger) → after p p.reply K ≡ K
    no_up : (n : Node) (k : ℕ) → p.reply ≢ r.Up n k
    told : IsItsBalance p.reply

  unknown : Asks (refuse (r.CentreRefused (no.UnknownCustomer w)))
  unknown = record { silent = refl; plain = λ K. refl; no_up = λ n k is. cc; told = inr (λ b is. cc) }

  -- the plan of the centre's answer about the customer, if the customer is open
  abbrev told_if : Bool → Plan
  told_if b = said_plan (says (told_balance w) (left_act w (balance w (counted H)) (if b then Some (customer_row_with w (counted H)) else None)))

  by_opened : is_on Centre H ≡ true → (b : Bool) → Asks (unless_worn (counted H) (told_if b) (told_if b).commit)
  by_opened on true = record { silent = refl; plain = λ K. refl; no_up = λ n k is. cc; told = inl (refl, on) }
  by_opened on false = unknown

  on_a_day : (τ : Tariff) (text : List ℕ) (day : Option ℤ) → Asks (moves.on_day (moves.plan_on τ todays_rules H (ev.Balance w) text) day)
  on_a_day τ text None = record { silent = refl; plain = λ K. refl; no_up = λ n k is. cc; told = inr (λ b is. cc) }
  on_a_day τ text (Some today) = chosen Asks (is_on Centre H) _ (refuse (r.OffNode Centre)) (λ on. by_opened on (opened w (counted H)))
      (λ off. record { silent = refl; plain = λ K. refl; no_up = λ n k is. cc; told = inr (λ b is. cc) })

  asks_so : (τ : Tariff) (text : List ℕ) → Asks (plan τ todays_rules H (ev.Balance w) text)
  unfolding plan
  asks_so τ text = on_a_day τ text (day_in H)

  -- whatever reply it gets
  pub record Answered (p : Plan) (reply : Reply) : Type 0 where
    pub range : IsCustomer w
    pub plain : (K : Ledger) → after p reply K ≡ K
    pub told : IsItsBalance reply

  silent_torn : (c : Option Commit) (m : Node) (K : Ledger) → c ≡ None → with_torn c m K ≡ K
  silent_torn None m K none = refl
  silent_torn (Some c) m K none = absurd (cc)

  silent_commit : (c : Option Commit) (K : Ledger) → c ≡ None → with_commit c K ≡ K
  silent_commit None K none = refl
  silent_commit (Some c) K none = absurd (cc)

  failed_plain : (p : Plan) → p.commit ≡ None → (t : ReplyClass) → FailsTold p t → (K : Ledger) → after_told p t K ≡ K
  failed_plain p none (LostPower m) fails K = silent_torn p.commit m K none
  failed_plain p none (Faulted m) fails K = silent_torn p.commit m K none
  failed_plain p none (PrinterFailed j) fails K = silent_commit p.commit K none
  failed_plain p none _ fails K = absurd fails

  failed_other : (p : Plan) (reply : Reply) → FailsTold p (class_of reply) → (b : ℕ) → reply ≢ r.Balance w b
  failed_other p reply fails b is = subst (λ (x : Reply). FailsTold p (class_of x)) is fails

  pub asked : (τ : Tariff) (text : List ℕ) (reply : Reply) → Moves τ todays_rules H (ev.Balance w) text reply → Answered (plan τ todays_rules H (ev.Balance w) text) reply
  asked τ text reply (whole, inl is) =
      let a = asks_so τ text in
      record {
        range = whole;
        plain = λ K. subst (λ (x : Reply). after (plan τ todays_rules H (ev.Balance w) text) x K ≡ K) (sym is) (a.plain K);
        told = subst (λ (x : Reply). IsItsBalance x) (sym is) a.told;
      }
  asked τ text reply (whole, inr (inl other)) = absurd ((asks_so τ text).no_up other.node other.count other.answer_is)
  asked τ text reply (whole, inr (inr (inl fails))) = record {
    range = whole;
    plain = failed_plain (plan τ todays_rules H (ev.Balance w) text) (asks_so τ text).silent (class_of reply) fails;
    told = inr (failed_other (plan τ todays_rules H (ev.Balance w) text) reply fails);
  }
  asked τ text reply (whole, inr (inr (inr unread))) = record {
    range = whole;
    plain = λ K. subst (λ (x : Reply). after (plan τ todays_rules H (ev.Balance w) text) x K ≡ K) (sym unread.reply_is) refl;
    told = inr (λ b is. let wrong : r.RatesFault ≡ r.Balance w b = sym unread.reply_is ∙ is in cc);
  }
