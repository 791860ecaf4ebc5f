-- A row of steps: events with what they are answered, from one ledger to another.
use Rattle.std.specs.Prelude.{◌≡◌, ℕ, ◌≤◌, Bool, true, false, ◌&&◌, List, [], ◌∷◌, Result, Ok, Err, ◌==◌, nat_le, if◌then◌else◌}
use Rattle.bench_base.specs.declared.{refusals.RateRefusal.RateRefusal, refusals.RateRefusal.TheVariants.NoClass, events.Event.Event, events.Reply.Reply}
use Rattle.bench_base.specs.Rules.{Rules}
use Rattle.bench_base.specs.Ledger.{Ledger}
use Rattle.ledger_moves.specs.Tariffs.{Tariff}
use Rattle.ledger_moves.specs.Moves.{Moves, entries}
use Rattle.ledger_moves.specs.Histories.{Unforged}
use Rattle.std.proofs.Common.{ap, sym, subst, lit≤, true≢false}

pub record Step : Type 0 where
  pub event : Event
  -- what a `rates` takes
  pub text : List ℕ
  pub reply : Reply

-- each step is a move of the event in hand by these rules, and together they make the ledger at the end
unfoldable pub IsRow : Tariff → Rules → List Step → Ledger → Ledger → Type 0
IsRow τ ρ [] H end = H ≡ end
IsRow τ ρ (s ∷ ss) H end =
    Unforged s.event H × Moves τ ρ H s.event s.text s.reply × IsRow τ ρ ss (entries τ ρ H s.event s.text s.reply) end

abbrev pub one_price : Bool → Result ℕ RateRefusal
one_price known = if known then Ok 550 else Err NoClass

abbrev price_in : Result ℕ RateRefusal → ℕ
price_in (Ok postage) = postage
price_in (Err x) = 550

abbrev is_price : Result ℕ RateRefusal → Bool
is_price (Ok postage) = true
is_price (Err x) = false

pub one_price_bounds : (known : Bool) (postage : ℕ) → one_price known ≡ Ok postage → (1 ≤ postage) × (postage ≤ 100000)
one_price_bounds true postage h = subst (λ n. (1 ≤ n) × (n ≤ 100000)) (ap price_in h) (lit≤ tt, lit≤ tt)
one_price_bounds false postage h = absurd (true≢false (sym (ap is_price h)))

-- a tariff of two classes and two zones, with one price that is known: class 1, up to 28 grams, zone 1
abbrev pub sample : Tariff
sample = record {
  reading = λ text. Ok (2, 2);
  price = λ text class grams zone. one_price ((class == 1) && (nat_le grams 28 && (zone == 1)));
  bounds = λ text class grams zone postage. one_price_bounds ((class == 1) && (nat_le grams 28 && (zone == 1))) postage;
}
