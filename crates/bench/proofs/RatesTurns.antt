-- What an event does to the bench that reads rates.
use Rattle.std.proofs.Common.{◌≡◌, ◌≢◌, inl, inr, ℕ, ℤ, List, [], ◌∷◌, ◌++◌, Option, Some, None, true, false, Result, Ok, Err, refl, sym, ◌∙◌, ap, subst, true≢false}
use Rattle.std.specs.Prelude.{◌≤◌, is_some}
use Rattle.bench_base.specs.declared.{words.Node.Node, ledger.Entry.Entry, events.Reply.Reply}
use Rattle.bench_base.specs.declared.ledger.Entry.TheVariants as entry
use Rattle.bench_base.specs.declared.events.Event.TheVariants as ev
use Rattle.bench_base.specs.declared.events.Reply.TheVariants as r
use Rattle.bench_base.specs.Plans.{Plan}
use Rattle.bench_base.specs.Replies.{tells_power, tells_fault, has_read, is_refusal, MayGet}
use Rattle.bench_base.specs.Rules.{todays_rules, editions}
use Rattle.bench_base.specs.Ledger.{Ledger, rates_in, torn_of}
use Rattle.node_acts.specs.Kinds.{view_in}
use Rattle.node_acts.specs.Plans.{after}
use Rattle.node_storage.specs.Stands as node
use Rattle.node_turns.specs.declared.turn.Turn.{Turn}
use Rattle.node_turns.specs.Adds.{Adds}
use Rattle.node_turns.specs.Turns.{turn_of, in_order, made_in}
use Rattle.host_rates.specs.declared.reading.RatesFail.{RatesFail}
use Rattle.host_rates.specs.declared.reading.RatesFail.TheVariants as fail
use Rattle.host_rates.specs.Tables.{RateTable}
use Rattle.host_rates.specs.Tariffs.{Keeps}
use Rattle.host_rates.specs.Answers.{answer}
use Rattle.ledger_moves.specs.Tariffs.{Tariff}
use Rattle.ledger_moves.specs.Histories.{History}
use Rattle.ledger_moves.specs.Moves.{plan}
use Rattle.bench_abstraction.specs.declared.routing.OfDay.TheVariants as of_day
use Rattle.bench_abstraction.specs.Tariff.{IsOfTexts}
use Rattle.bench_abstraction.proofs.RatesPlans.{plan_of, planned, are_rates, plan_rates}
use Rattle.bench.specs.Benches.{Nodes, OfState, IsReady, Stands, BenchOf}
use Rattle.bench.specs.Outside.{Outside, ReadsText, ReadsRates, failed, read, rates_turn, rates_after}
use Rattle.bench.specs.Steps.{Steps, notes_in}
use Rattle.bench.proofs.Answered.{again, no_some}
use Rattle.bench.proofs.EachKind.{of_all, of_with}
use Rattle.bench.proofs.Quiet.{QuietOn, SwitchesIs, asking, quiet}
use Rattle.bench.proofs.Unprinted.{IsUnprinted}

-- == what is reported of a text ==

turn_is : (text : List ℕ) (x : Result RateTable RatesFail) → rates_turn text x ≡ turn_of (plan_of text x).reply (plan_of text x).after
turn_is text (Ok x) = refl
turn_is text (Err (fail.Length n)) = refl
turn_is text (Err fail.Toml) = refl
turn_is text (Err fail.Form) = refl
turn_is text (Err (fail.Memory x)) = refl

-- what holds of each such reply and of the entries that are reported with it
record Told (text : List ℕ) (reply : Reply) (tells : List Entry) : Type 0 where
  gets : MayGet ev.Rates reply
  says : Adds ev.Rates reply (in_order tells)
  unmade : made_in (in_order tells) ≡ None
  power : (i : Node) → tells_power i reply ≡ false
  fault : (i : Node) → tells_fault i reply ≡ false
  not_read : has_read reply ≡ false
  dated : reply ≢ r.NoDay
  unsent : notes_in (in_order tells) ≡ []
  prints : IsUnprinted reply

told_of : (text : List ℕ) (x : Result RateTable RatesFail) → Told text (plan_of text x).reply (plan_of text x).after
told_of text (Ok x) = record {
  gets = refl;
  says = (text, refl);
  unmade = refl;
  power = λ i. refl;
  fault = λ i. refl;
  not_read = refl;
  dated = λ is. cc;
  unsent = refl;
  prints = record { whole = λ j is. cc; cut = λ j is. cc };
}
told_of text (Err (fail.Length n)) = record {
  gets = refl;
  says = refl;
  unmade = refl;
  power = λ i. refl;
  fault = λ i. refl;
  not_read = refl;
  dated = λ is. cc;
  unsent = refl;
  prints = record { whole = λ j is. cc; cut = λ j is. cc };
}
told_of text (Err fail.Toml) = record {
  gets = refl;
  says = refl;
  unmade = refl;
  power = λ i. refl;
  fault = λ i. refl;
  not_read = refl;
  dated = λ is. cc;
  unsent = refl;
  prints = record { whole = λ j is. cc; cut = λ j is. cc };
}
told_of text (Err fail.Form) = record {
  gets = refl;
  says = refl;
  unmade = refl;
  power = λ i. refl;
  fault = λ i. refl;
  not_read = refl;
  dated = λ is. cc;
  unsent = refl;
  prints = record { whole = λ j is. cc; cut = λ j is. cc };
}
told_of text (Err (fail.Memory x)) = record {
  gets = refl;
  says = refl;
  unmade = refl;
  power = λ i. refl;
  fault = λ i. refl;
  not_read = refl;
  dated = λ is. cc;
  unsent = refl;
  prints = record { whole = λ j is. cc; cut = λ j is. cc };
}

told_fault : (text : List ℕ) → Told text r.RatesFault []
told_fault text = record {
  gets = refl;
  says = refl;
  unmade = refl;
  power = λ i. refl;
  fault = λ i. refl;
  not_read = refl;
  dated = λ is. cc;
  unsent = refl;
  prints = record { whole = λ j is. cc; cut = λ j is. cc };
}

-- == what it does to the bench ==

module _ (n : Nodes) (text : List ℕ) (turn : Turn) (today : ℤ)
    (old : BenchOf n) (kept : Option RateTable) (before now : Outside) (ready : IsReady old) (day_is : old.day ≡ Some today) (printer : now.printer ≡ before.printer) (later : before.rates.faults ≤ now.rates.faults) where
  abbrev new : BenchOf n
  new = record old { rates = kept }

  abbrev StandsIs : Ledger → OfState n.Storage
  StandsIs L o i d s = node.Stands o.ghosts n.storage d (view_in i (o.kind.seen d) L) s

  reads : (reply : Reply) (tells : List Entry) → turn ≡ turn_of reply tells → ReadsText text turn old.rates kept before.rates now.rates → ReadsRates ev.Rates text (turn_of reply tells) old.day old.rates kept before.rates now.rates
  reads reply tells is what = record {
    reads = λ same some. subst (λ (t : Turn). ReadsText text t old.rates kept before.rates now.rates) is what;
    no_day = λ none. no_some today (sym none ∙ day_is);
    others = λ not. absurd (not refl);
    later = later;
  }

  -- by what is reported of the text
  by_told : (reply : Reply) (tells : List Entry) → turn ≡ turn_of reply tells → Told text reply tells → ReadsText text turn old.rates kept before.rates now.rates → (is_refusal reply ≡ true → (new ≡ old) × (tells ≡ []))
      → ((τ : Tariff) (L : Ledger) → IsOfTexts τ → History τ editions L → Stands n old L → n.storage.tells → QuietOn n ev.Rates ev.Rates text reply tells old new before now τ L)
      → Steps n ev.Rates text (turn_of reply tells) old new before now
  by_told reply tells is so what refused on = quiet n ev.Rates ev.Rates text reply tells old new before now (record { devices = refl; centre = refl; host = refl; verifier = refl }) refl ready tt
      (record {
        given = refl;
        power = so.power;
        fault = so.fault;
        gets = so.gets;
        says = so.says;
        unmade = so.unmade;
        untouched = λ calls. absurd (true≢false (sym calls.0));
        day = λ needs. (λ same. absurd (so.dated same), λ none. no_some today (sym none ∙ day_is));
        dated = refl;
        dates = λ t same. cc;
        ends = λ same. cc;
        compares = λ i same. let wrong : ⊥ = cc in absurd wrong;
        message = λ k same. cc;
        unsent = so.unsent;
        refused = refused;
        switches = of_all n (SwitchesIs n ev.Rates ev.Rates text reply tells old new before now) old (λ o i d s some at. no_some i at);
        unarmed = λ some m calls keep byte same. cc;
        rates = reads reply tells is what;
        printer = printer;
        prints = so.prints;
      })
      on
      (λ tells. asking _ _ _ _ _ _ _ _ _ _ of_day.Rates refl (λ today day. tt) so.not_read)

  keeps_of : (L : Ledger) → Keeps (rates_in L) old.rates → (x : Result RateTable RatesFail) → answer text ≡ x → Keeps (rates_in ((plan_of text x).after ++ L)) (rates_after old.rates x)
  keeps_of L keeps (Ok x) is = are_rates text x is
  keeps_of L keeps (Err (fail.Length k)) is = keeps
  keeps_of L keeps (Err fail.Toml) is = keeps
  keeps_of L keeps (Err fail.Form) is = keeps
  keeps_of L keeps (Err (fail.Memory y)) is = keeps

  -- the bench represents the ledger with the reported entries
  stands_of : (L : Ledger) (x : Result RateTable RatesFail) → kept ≡ rates_after old.rates x → answer text ≡ x → Stands n old L → Stands n new ((plan_of text x).after ++ L)
  stands_of L x kept_is is stands = by x kept_is (subst (λ (o : Option RateTable). Keeps (rates_in ((plan_of text x).after ++ L)) o) (sym kept_is) (keeps_of L stands.day.rates x is))
    where
      as_it_was : Keeps (rates_in L) kept → Stands n new L
      as_it_was keeps = record { day = record { day = stands.day.day; messages = stands.day.messages; rates = keeps }; nodes = stands.nodes }

      by : (y : Result RateTable RatesFail) → kept ≡ rates_after old.rates y → Keeps (rates_in ((plan_of text y).after ++ L)) kept → Stands n new ((plan_of text y).after ++ L)
      by (Ok y) same keeps = record {
        day = record { day = stands.day.day; messages = stands.day.messages; rates = keeps };
        nodes = λ m. of_with n (StandsIs L) (StandsIs (entry.Rates text ∷ L)) old
            (λ o i d s st. again o.ghosts n.storage d (view_in i (o.kind.seen d) L) s (view_in i (o.kind.seen d) (entry.Rates text ∷ L)) refl refl refl st) m (stands.nodes m);
      }
      by (Err (fail.Length k)) same keeps = as_it_was keeps
      by (Err fail.Toml) same keeps = as_it_was keeps
      by (Err fail.Form) same keeps = as_it_was keeps
      by (Err (fail.Memory y)) same keeps = as_it_was keeps

  kept_on : kept ≡ old.rates → new ≡ old
  kept_on same k = record old { rates = same k }

  refused_of : (x : Result RateTable RatesFail) → kept ≡ rates_after old.rates x → is_refusal (plan_of text x).reply ≡ true → (new ≡ old) × ((plan_of text x).after ≡ [])
  refused_of (Ok x) kept_is is = absurd (true≢false (sym is))
  refused_of (Err (fail.Length k)) kept_is is = (kept_on kept_is, refl)
  refused_of (Err fail.Toml) kept_is is = (kept_on kept_is, refl)
  refused_of (Err fail.Form) kept_is is = (kept_on kept_is, refl)
  refused_of (Err (fail.Memory y)) kept_is is = (kept_on kept_is, refl)

  commit_of : (x : Result RateTable RatesFail) → (plan_of text x).commit ≡ None
  commit_of (Ok x) = refl
  commit_of (Err (fail.Length k)) = refl
  commit_of (Err fail.Toml) = refl
  commit_of (Err fail.Form) = refl
  commit_of (Err (fail.Memory y)) = refl

  adds_of : (x : Result RateTable RatesFail) (K : Ledger) → after (plan_of text x) (plan_of text x).reply K ≡ (plan_of text x).after ++ K
  adds_of (Ok x) K = refl
  adds_of (Err (fail.Length k)) K = refl
  adds_of (Err fail.Toml) K = refl
  adds_of (Err fail.Form) K = refl
  adds_of (Err (fail.Memory y)) K = refl

  still_of : (x : Result RateTable RatesFail) (L : Ledger) (m : Node) → torn_of m ((plan_of text x).after ++ L) ≡ torn_of m L
  still_of (Ok x) L m = refl
  still_of (Err (fail.Length k)) L m = refl
  still_of (Err fail.Toml) L m = refl
  still_of (Err fail.Form) L m = refl
  still_of (Err (fail.Memory y)) L m = refl

  -- by the ledger, the plan is that of what the text reads as
  plan_is : (τ : Tariff) (L : Ledger) → IsOfTexts τ → Stands n old L → plan τ todays_rules L ev.Rates text ≡ plan_of text (answer text)
  plan_is τ L of stands = plan_rates τ L text today (sym stands.day.day ∙ day_is) ∙ planned τ of text

  read_steps : (x : Result RateTable RatesFail) → answer text ≡ x → turn ≡ turn_of (plan_of text x).reply (plan_of text x).after → kept ≡ rates_after old.rates x → ReadsText text turn old.rates kept before.rates now.rates
      → Steps n ev.Rates text turn old new before now
  read_steps x is turn_as kept_is what = subst (λ (t : Turn). Steps n ev.Rates text t old new before now) (sym turn_as)
      (by_told (plan_of text x).reply (plan_of text x).after turn_as (told_of text x) what (refused_of x kept_is) (λ τ L texts history stands tells.
      let plan_as : plan τ todays_rules L ev.Rates text ≡ plan_of text x = plan_is τ L texts stands ∙ ap (plan_of text) is in
      record {
        moves = (tt, inl (ap (λ (p : Plan). p.reply) (sym plan_as)));
        silent = ap (λ (p : Plan). p.commit) plan_as ∙ commit_of x;
        adds = λ K. ap (λ (p : Plan). after p (plan_of text x).reply K) plan_as ∙ adds_of x K;
        stands = stands_of L x kept_is is stands;
        still = λ k. still_of x L k;
      }))

  failed_steps : turn ≡ turn_of r.RatesFault [] → kept ≡ old.rates → ReadsText text turn old.rates kept before.rates now.rates → Steps n ev.Rates text turn old new before now
  failed_steps turn_as kept_is what = subst (λ (t : Turn). Steps n ev.Rates text t old new before now) (sym turn_as)
      (by_told r.RatesFault [] turn_as (told_fault text) what (λ is. absurd (true≢false (sym is))) (λ τ L texts history stands tells. record {
        moves = (tt, inr (inr (inr (record { event = refl; reply_is = refl; dated = ap is_some (sym stands.day.day ∙ day_is) }))));
        silent = ap (λ (p : Plan). p.commit) (plan_is τ L texts stands) ∙ commit_of (answer text);
        adds = λ K. refl;
        stands = subst (λ (b : BenchOf n). Stands n b L) (sym (kept_on kept_is)) stands;
        still = λ k. refl;
      }))

  pub steps_rates : ReadsText text turn old.rates kept before.rates now.rates → Steps n ev.Rates text turn old new before now
  steps_rates (failed turn_as kept_is consumes short rose) = failed_steps turn_as kept_is (failed turn_as kept_is consumes short rose)
  steps_rates (read takes turn_as kept_is) = read_steps (answer text) refl (turn_as ∙ turn_is text (answer text)) kept_is (read takes turn_as kept_is)
