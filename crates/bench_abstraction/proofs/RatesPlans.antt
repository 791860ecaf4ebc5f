-- Rates by their texts: what a text is reported as, what a piece costs by it, and what is routed by the rates that are kept.
use Rattle.std.proofs.Common.{◌≡◌, ℕ, ℤ, List, [], ◌∷◌, length, Option, Some, None, Bool, true, false, Result, Ok, Err, refl, sym, ◌∙◌, ap, subst, if◌then◌else◌}
use Rattle.std.specs.Prelude.{option_and_then, nat_lt, ok_or}
use Rattle.bench_base.specs.declared.ledger.Entry.TheVariants as entry
use Rattle.bench_base.specs.declared.{events.Event.Event, refusals.RateRefusal.RateRefusal}
use Rattle.bench_base.specs.declared.events.Event.TheVariants as ev
use Rattle.bench_base.specs.declared.events.Reply.TheVariants as r
use Rattle.bench_base.specs.Plans.{Plan, refuse, told}
use Rattle.bench_base.specs.Rules.{todays_rules}
use Rattle.bench_base.specs.Ledger.{Ledger, day_in, rates_in}
use Rattle.host_rates.specs.declared.reading.RatesFail.{RatesFail}
use Rattle.host_rates.specs.declared.reading.RatesFail.TheVariants as fail
use Rattle.host_rates.specs.Laws.{KeptPrices}
use Rattle.host_rates.specs.Tables.{RateTable}
use Rattle.host_rates.specs.Tariffs as texts
use Rattle.host_rates.specs.Tariffs.{Keeps}
use Rattle.host_rates.specs.Reading as reading
use Rattle.host_rates.specs.Reading.{document}
use Rattle.host_rates.specs.Answers.{answer, answer_of, AreRatesOf}
use Rattle.ledger_moves.specs.Tariffs.{Tariff, NoToml, NoForm}
use Rattle.ledger_moves.specs.Moves.{plan, rates_plan, reading_plan, price_by}
use Rattle.bench_abstraction.specs.Tariff.{IsOfTexts, Quote, quote, quote_in}
use Rattle.bench_abstraction.specs.Messages.{sent_in}
use Rattle.bench_abstraction.specs.Routing.{routed}
use Rattle.bench_abstraction.specs.declared.routing.Routed.{Routed}

-- == what is reported of a text ==

-- what it is reported as, as a plan
abbrev pub plan_of : List ℕ → Result RateTable RatesFail → Plan
plan_of text (Ok x) = told (r.Rates (length x.classes) x.zones) (entry.Rates text ∷ [])
plan_of text (Err (fail.Length n)) = refuse r.RatesLength
plan_of text (Err fail.Toml) = refuse r.RatesToml
plan_of text (Err fail.Form) = refuse r.RatesForm
plan_of text (Err (fail.Memory x)) = refuse r.RatesForm

-- it is the plan of the tariff of texts
pub planned : (τ : Tariff) → IsOfTexts τ → (text : List ℕ) → rates_plan τ text ≡ plan_of text (answer text)
planned τ of text = ap (λ x. if nat_lt 65536 (length text) then refuse r.RatesLength else reading_plan text x) (of.reading text) ∙ by (nat_lt 65536 (length text)) (document text)
  where
    formed : (o : Option RateTable) → reading_plan text (texts.sizes_of (ok_or o NoForm)) ≡ plan_of text (ok_or o fail.Form)
    formed None = refl
    formed (Some x) = refl

    by : (long : Bool) (o : Option _) → (if long then refuse r.RatesLength else reading_plan text (texts.sizes_of (answer_of NoToml NoForm o)))
        ≡ plan_of text (if long then Err (fail.Length (length text)) else answer_of fail.Toml fail.Form o)
    by true o = refl
    by false None = refl
    by false (Some ms) = formed (reading.rates_in ms)

-- rates that a text is answered are those of the text
pub are_rates : (text : List ℕ) (x : RateTable) → answer text ≡ Ok x → AreRatesOf text x
are_rates text x is = by (nat_lt 65536 (length text)) (document text) is
  where
    formed : (o : Option RateTable) → ok_or o fail.Form ≡ Ok x → o ≡ Some x
    formed None same = cc
    formed (Some y) same = ap (λ z. Some z) (cc)

    by : (long : Bool) (o : Option _) → (if long then Err (fail.Length (length text)) else answer_of fail.Toml fail.Form o) ≡ Ok x → option_and_then reading.rates_in o ≡ Some x
    by true o same = cc
    by false None same = cc
    by false (Some ms) same = formed (reading.rates_in ms) same

pub plan_rates : (τ : Tariff) (H : Ledger) (text : List ℕ) (today : ℤ) → day_in H ≡ Some today → plan τ todays_rules H ev.Rates text ≡ rates_plan τ text
unfolding plan
plan_rates τ H text today is = rw is refl

-- == prices ==

priced : (τ : Tariff) → KeptPrices → IsOfTexts τ → (text : Option (List ℕ)) (kept : Option RateTable) → Keeps text kept → (class grams zone : ℕ) → quote kept class grams zone ≡ price_by τ class grams zone text
priced τ prices texts None kept keeps class grams zone = prices None kept class grams zone keeps
priced τ prices texts (Some text) kept keeps class grams zone = prices (Some text) kept class grams zone keeps ∙ ap (λ (p : Result ℕ RateRefusal). Some p) (sym (texts.price text class grams zone))

-- what is routed by the rates that are kept is routed by those of the ledger
pub taken_by : (τ : Tariff) → KeptPrices → IsOfTexts τ → (H : Ledger) (pool : List (List ℕ)) (kept : Option RateTable) (e : Event) (x : Routed) → pool ≡ sent_in H → Keeps (rates_in H) kept
    → routed pool (quote kept) e ≡ Some x → routed (sent_in H) (quote_in τ H) e ≡ Some x
taken_by τ prices texts H pool kept e x sent keeps is =
    let same : quote kept ≡ quote_in τ H = λ k class grams zone. priced τ prices texts (rates_in H) kept keeps class grams zone k in
    subst (λ (q : Quote). routed (sent_in H) q e ≡ Some x) same (subst (λ (l : List (List ℕ)). routed l (quote kept) e ≡ Some x) sent is)
