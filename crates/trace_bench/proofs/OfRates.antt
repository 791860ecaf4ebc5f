-- What is heard of a `rates` on a day, by the ledger.
use Rattle.std.proofs.Common.{◌≡◌, ◌⊎◌, inl, inr, ⊎_elim, ℕ, ℤ, List, [], ◌∷◌, length, Option, Some, None, true, false, Result, Ok, Err, refl, sym, ◌∙◌, ap, subst}
use Rattle.std.specs.Prelude.{is_some}
use Rattle.bench_base.specs.declared.ledger.Entry.TheVariants as entry
use Rattle.bench_base.specs.declared.events.Event.TheVariants as ev
use Rattle.bench_base.specs.declared.events.Reply.{Reply}
use Rattle.bench_base.specs.declared.events.Reply.TheVariants as r
use Rattle.bench_base.specs.Plans.{Plan}
use Rattle.bench_base.specs.Replies.{Did, class_of, fails_to_read}
use Rattle.bench_base.specs.Rules.{todays_rules}
use Rattle.bench_base.specs.Ledger.{Ledger, day_in}
use Rattle.node_acts.specs.Plans.{Fails, after}
use Rattle.host_rates.specs.declared.reading.RatesFail.{RatesFail}
use Rattle.host_rates.specs.declared.reading.RatesFail.TheVariants as fail
use Rattle.host_rates.specs.Tables.{RateTable}
use Rattle.host_rates.specs.Tariffs.{Keeps}
use Rattle.host_rates.specs.Answers.{answer}
use Rattle.ledger_moves.specs.Tariffs.{Tariff}
use Rattle.ledger_moves.specs.Moves.{Moves, plan, answer as answer_in, entries}
use Rattle.bench_abstraction.specs.Tariff.{IsOfTexts}
use Rattle.bench_abstraction.proofs.RatesPlans.{plan_of, planned, are_rates, plan_rates}
use Rattle.bench.specs.Outside.{rates_turn, rates_after}
use Rattle.node_turns.specs.Turns as turns
use Rattle.node_turns.specs.Turns.{turn_of}
use Rattle.node_turns.specs.declared.turn.Turn.{Turn}
use Rattle.script_text.specs.Texts.{text_of, IsWholeReply}
use Rattle.trace_nodes.specs.Released.{released_in}
use Rattle.trace_bench.specs.declared.{noting.Noted.Noted, judging.Judged.Judged, judging.Finding.Finding, judging.Finding.TheVariants.Wrong, judging.Finding.TheVariants.Memory}
use Rattle.trace_views.specs.Verdicts.{Adds, turn_at}
use Rattle.trace_bench.specs.Judging.{MayGet, taken_by, text_with, ledger_with, turn_with, IsHeard}
use Rattle.trace_bench.specs.Noting.{IsNoted}
use Rattle.trace_bench.specs.Plainly.{heard_of, heard_of_rates}
use Rattle.trace_bench.specs.RatesTold.{IsToldOfRates, failed, read, due_of, text_of_rates}
use Rattle.trace_bench.specs.Seeing.{Audit, SeesRun, sending}
use Rattle.trace_bench.proofs.Keeping.{adds_none}
use Rattle.trace_bench.proofs.Quiet.{IsSilent, never_fails}
use Rattle.trace_bench.proofs.Seen.{sends_nothing}

-- == the plan of a text ==

-- it sends and releases nothing
read_adds : (text : List ℕ) (x : Result RateTable RatesFail) (L : Ledger) → Adds None None L (after (plan_of text x) (plan_of text x).reply L)
read_adds text (Ok x) L = let none = adds_none L in record { sends = none.sends; releases = none.releases }
read_adds text (Err (fail.Length n)) L = adds_none L
read_adds text (Err fail.Toml) L = adds_none L
read_adds text (Err fail.Form) L = adds_none L
read_adds text (Err (fail.Memory x)) L = adds_none L

silent : (text : List ℕ) (x : Result RateTable RatesFail) → IsSilent (plan_of text x)
silent text (Ok x) = record { silent = refl; no_up = λ m k is. cc; no_print = λ j is. cc; adds = λ L. read_adds text (Ok x) L; unsent = refl; unreleased = refl }
silent text (Err (fail.Length n)) = record { silent = refl; no_up = λ m k is. cc; no_print = λ j is. cc; adds = λ L. read_adds text (Err (fail.Length n)) L; unsent = refl; unreleased = refl }
silent text (Err fail.Toml) = record { silent = refl; no_up = λ m k is. cc; no_print = λ j is. cc; adds = λ L. read_adds text (Err fail.Toml) L; unsent = refl; unreleased = refl }
silent text (Err fail.Form) = record { silent = refl; no_up = λ m k is. cc; no_print = λ j is. cc; adds = λ L. read_adds text (Err fail.Form) L; unsent = refl; unreleased = refl }
silent text (Err (fail.Memory x)) = record { silent = refl; no_up = λ m k is. cc; no_print = λ j is. cc; adds = λ L. read_adds text (Err (fail.Memory x)) L; unsent = refl; unreleased = refl }

-- an answer doesn't report that the source failed
was_read : (text : List ℕ) (x : Result RateTable RatesFail) → fails_to_read (class_of (plan_of text x).reply) ≡ false
was_read text (Ok x) = refl
was_read text (Err (fail.Length n)) = refl
was_read text (Err fail.Toml) = refl
was_read text (Err fail.Form) = refl
was_read text (Err (fail.Memory x)) = refl

due_is : (text : List ℕ) (x : Result RateTable RatesFail) → answer text ≡ x → due_of text ≡ (plan_of text x).reply
due_is text x is = ap (λ (y : Result RateTable RatesFail). (rates_turn text y).reply) is ∙ named x
  where
    named : (y : Result RateTable RatesFail) → (rates_turn text y).reply ≡ (plan_of text y).reply
    named (Ok y) = refl
    named (Err (fail.Length n)) = refl
    named (Err fail.Toml) = refl
    named (Err fail.Form) = refl
    named (Err (fail.Memory w)) = refl

-- the turn of a text is that of its plan, and shows neither a message nor a mark
turn_is : (text : List ℕ) (x : Result RateTable RatesFail) → rates_turn text x ≡ turn_of (plan_of text x).reply (after (plan_of text x) (plan_of text x).reply [])
turn_is text (Ok x) = refl
turn_is text (Err (fail.Length n)) = refl
turn_is text (Err fail.Toml) = refl
turn_is text (Err fail.Form) = refl
turn_is text (Err (fail.Memory w)) = refl

module _ (τ : Tariff) (H : Ledger) (of : IsOfTexts τ) (today : ℤ) (day : day_in H ≡ Some today) (left line : List ℕ) where
  abbrev T : List ℕ
  T = text_of_rates left

  abbrev p : List ℕ → Plan
  p text = plan_of text (answer text)

  plan_is : (text : List ℕ) → plan τ todays_rules H ev.Rates text ≡ p text
  plan_is text = plan_rates τ H text today day ∙ planned τ of text

  dated : is_some (day_in H) ≡ true
  dated = ap is_some day

  -- what it takes
  takes_all : (reply : Reply) → fails_to_read (class_of reply) ≡ false → text_with τ H ev.Rates left line reply ≡ T
  takes_all reply fine = rw (dated, fine) refl

  takes_none : text_with τ H ev.Rates left line r.RatesFault ≡ []
  takes_none = rw dated refl

  due : due_of T ≡ (p T).reply
  due = due_is T (answer T) refl

  -- no other reply may come than the answer to what it takes, and that the source failed
  kind : (reply : Reply) → Moves τ todays_rules H ev.Rates (text_with τ H ev.Rates left line reply) reply → (reply ≡ due_of T) ⊎ (reply ≡ r.RatesFault)
  kind reply (whole, inl is) =
      let text = text_with τ H ev.Rates left line reply in
      let named : reply ≡ (p text).reply = is ∙ ap (λ (q : Plan). q.reply) (plan_is text) in
      let fine : fails_to_read (class_of reply) ≡ false = ap (λ (y : Reply). fails_to_read (class_of y)) named ∙ was_read text (answer text) in
      inl (named ∙ ap (λ (t : List ℕ). (p t).reply) (takes_all reply fine) ∙ sym due)
  kind reply (whole, inr (inl up)) = let text = text_with τ H ev.Rates left line reply in absurd ((silent text (answer text)).no_up up.node up.count (sym (ap (λ (q : Plan). q.reply) (plan_is text)) ∙ up.answer_is))
  kind reply (whole, inr (inr (inl fails))) =
      let text = text_with τ H ev.Rates left line reply in
      absurd (never_fails (p text) (silent text (answer text)) (class_of reply) (subst (λ (q : Plan). Fails q reply) (plan_is text) fails))
  kind reply (whole, inr (inr (inr reading))) = inr reading.reply_is

  module _ (old new : Audit) (sees : SeesRun old H) (new_is : new ≡ record old { rates = new.rates }) where
    kept : new.rates ≡ old.rates → new ≡ old
    kept same = new_is ∙ λ k. record old { rates = same k }

    sees_read : (x : Result RateTable RatesFail) → answer T ≡ x → new.rates ≡ rates_after old.rates x → SeesRun new (after (plan_of T x) (plan_of T x).reply H)
    sees_read (Ok x) is kept_is = subst (λ (a : Audit). SeesRun a (entry.Rates T ∷ H)) (sym new_is) (record {
      day = record { day = sees.day.day; messages = sees.day.messages; rates = subst (λ (o : Option RateTable). Keeps (Some T) o) (sym kept_is) (are_rates T x is) };
      devices = sees.devices;
      centre = sees.centre;
      host = sees.host;
      verifier = sees.verifier;
    })
    sees_read (Err (fail.Length k)) is kept_is = subst (λ (a : Audit). SeesRun a H) (sym (kept kept_is)) sees
    sees_read (Err fail.Toml) is kept_is = subst (λ (a : Audit). SeesRun a H) (sym (kept kept_is)) sees
    sees_read (Err fail.Form) is kept_is = subst (λ (a : Audit). SeesRun a H) (sym (kept kept_is)) sees
    sees_read (Err (fail.Memory y)) is kept_is = subst (λ (a : Audit). SeesRun a H) (sym (kept kept_is)) sees

    -- what is heard of a reply to it whose turn sends and releases nothing
    module _ {A : Type 0} (IsOf : A → Turn → Type 0) (noted : Noted A) (reply : Reply) (turn : Turn) (is : IsNoted IsOf noted turn)
        (unsent : turns.sent_in turn.entries ≡ None) (unreleased : released_in turn.entries ≡ None) where
      abbrev L : Ledger
      L = ledger_with τ H ev.Rates left line reply

      heard_so : text_of reply ≡ line → IsWholeReply reply → MayGet τ H ev.Rates left line reply → SeesRun new L → Adds None None H L
          → (taken : ℕ) → taken ≡ length (text_with τ H ev.Rates left line reply) → turn ≡ turn_with τ H ev.Rates left line reply
          → IsHeard IsOf τ H ev.Rates left line new (Ok (heard_of noted taken None))
      heard_so text whole moves seen adds taken taken_is same =
          let sent_is : noted.sent ≡ None = is.1 ∙ unsent in
          let released_is : noted.released ≡ None = is.2 ∙ unreleased in (
            reply,
            record {
              text = text;
              whole = whole;
              moves = moves;
              sees = subst (λ (a : Audit). SeesRun a L) (sym (ap (λ (o : Option (List ℕ)). sending o new) sent_is ∙ sends_nothing new)) seen;
            },
            taken_is,
            subst (λ (o : Option (List ℕ)). Adds o noted.released H L) (sym sent_is) (subst (λ (o : Option (List ℕ)). Adds None o H L) (sym released_is) adds),
            subst (λ (t : Turn). IsOf noted.told t) same is.0,
          )

    pub heard_rates : {A : Type 0} (IsOf : A → Turn → Type 0) (result : Result (Judged (Noted A)) Finding) → IsToldOfRates (IsNoted IsOf) left line old.rates new.rates result
        → IsHeard IsOf τ H ev.Rates left line new (heard_of_rates result)
    heard_rates IsOf (Ok judged) (turn, failed text none keeps same, noted) =
        heard_so IsOf judged.told r.RatesFault turn noted (ap (λ (t : Turn). turns.sent_in t.entries) same) (ap (λ (t : Turn). released_in t.entries) same)
        text tt (tt, inr (inr (inr (record { event = refl; reply_is = refl; dated = dated })))) (subst (λ (a : Audit). SeesRun a H) (sym (kept keeps)) sees) (adds_none H)
        judged.taken (none ∙ ap length (sym takes_none)) same
    heard_rates IsOf (Ok judged) (turn, read text whole all keeps same, noted) =
        let fine : fails_to_read (class_of (due_of T)) ≡ false = ap (λ (y : Reply). fails_to_read (class_of y)) due ∙ was_read T (answer T) in
        let text_is = takes_all (due_of T) fine in
        let reply_is : due_of T ≡ answer_in τ todays_rules H ev.Rates T = due ∙ ap (λ (q : Plan). q.reply) (sym (plan_is T)) in
        let after_is : entries τ todays_rules H ev.Rates T (due_of T) ≡ after (p T) (p T).reply H = ap (λ (q : Plan). after q (due_of T) H) (plan_is T) ∙ ap (λ (y : Reply). after (p T) y H) due in
        let named : turn ≡ turn_of (p T).reply (after (p T) (p T).reply []) = same ∙ turn_is T (answer T) in
        let there : turn ≡ turn_at τ H ev.Rates T (due_of T) =
        named ∙ ap (λ (y : Reply). turn_of y (after (p T) y [])) (sym due) ∙ ap (λ (q : Plan). turn_of (due_of T) (after q (due_of T) [])) (sym (plan_is T)) in
        heard_so IsOf judged.told (due_of T) turn noted
        (ap (λ (t : Turn). turns.sent_in t.entries) named ∙ (silent T (answer T)).unsent) (ap (λ (t : Turn). released_in t.entries) named ∙ (silent T (answer T)).unreleased)
        text whole (subst (λ (t : List ℕ). Moves τ todays_rules H ev.Rates t (due_of T)) (sym text_is) (tt, inl reply_is))
        (subst (λ (t : List ℕ). SeesRun new (entries τ todays_rules H ev.Rates t (due_of T))) (sym text_is) (subst (λ (K : Ledger). SeesRun new K) (sym after_is) (sees_read (answer T) refl keeps)))
        (subst (λ (t : List ℕ). Adds None None H (entries τ todays_rules H ev.Rates t (due_of T))) (sym text_is) (subst (λ (K : Ledger). Adds None None H K) (sym after_is) (read_adds T (answer T) H)))
        judged.taken (all ∙ ap length (sym text_is)) (there ∙ ap (λ (t : List ℕ). turn_at τ H ev.Rates t (due_of T)) (sym text_is))
    heard_rates IsOf (Err (Wrong due_reply)) never = record {
      due_is = never.due_is ∙ due ∙ ap (λ (q : Plan). q.reply) (sym (plan_is T)) ∙ ap (λ (t : List ℕ). answer_in τ todays_rules H ev.Rates t) (sym all_taken);
      none = λ reply may is. ⊎_elim
          (λ (same : reply ≡ due_of T). never.other (ap text_of (never.due_is ∙ sym same) ∙ is))
          (λ (same : reply ≡ r.RatesFault). never.no_fault (ap text_of (sym same) ∙ is))
          (kind reply may);
      rests = subst (λ (a : Audit). SeesRun a H) (sym (kept never.keeps)) sees;
    }
      where
        all_taken : taken_by ev.Rates (day_in H) Did left ≡ T
        all_taken = rw dated refl
    heard_rates IsOf (Err Memory) none = tt
