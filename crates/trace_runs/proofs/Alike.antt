-- Ledgers that look alike once a run begins.
use Rattle.std.proofs.Common.{◌≡◌, ◌↔◌, List, ◌∷◌, false, Option, refl, sym, ◌∙◌, ap, subst}
use Rattle.std.specs.Prelude.{option_map, ℕ, ◌+◌}
use Rattle.bench_base.specs.declared.{words.Node.Node, words.Node.TheVariants.Device, words.Node.TheVariants.Centre, words.Node.TheVariants.Host, words.Node.TheVariants.Verifier, ledger.Commit.Commit}
use Rattle.bench_base.specs.declared.ledger.Entry.TheVariants as entry
use Rattle.bench_base.specs.Ledger.{Ledger, IsSent, IsReleased, torn_of, counted}
use Rattle.node_acts.specs.Kinds.{view_in}
use Rattle.node_acts.specs.Views.{View}
use Rattle.bench_abstraction.specs.Kinds.{bench_kinds}
use Rattle.trace_bench.specs.Debits.{TellsDebits}
use Rattle.trace_bench.specs.Seeing.{Audit, Sees, SeesRun}
use Rattle.trace_runs.specs.Between.{LooksLike, SeesBetween}

-- the same counts and is open in both, and the same was sent, released and debited
pub record AreAlike (K L : Ledger) : Type 0 where
  pub counts : counted K ≡ counted L
  pub opens : (m : Node) → torn_of m K ≡ torn_of m L
  pub sent : (bytes : List ℕ) → IsSent bytes K ↔ IsSent bytes L
  pub released : (mark : List ℕ) → IsReleased mark K ↔ IsReleased mark L
  pub debited : (a : Audit) → TellsDebits a.known.seen K ↔ TellsDebits a.known.seen L

pub same : (K : Ledger) → AreAlike K K
same K = record { counts = refl; opens = λ m. refl; sent = λ b. (λ s. s, λ s. s); released = λ b. (λ s. s, λ s. s); debited = λ a. (λ t. t, λ t. t) }

pub equal : (K L : Ledger) → K ≡ L → AreAlike K L
equal K L is = subst (λ (X : Ledger). AreAlike K X) is (same K)

pub back : (K L : Ledger) → AreAlike K L → AreAlike L K
back K L are = record { counts = sym are.counts; opens = λ m. sym (are.opens m); sent = λ b. ((are.sent b).1, (are.sent b).0); released = λ b. ((are.released b).1, (are.released b).0); debited = λ a. ((are.debited a).1, (are.debited a).0) }

pub printed : (j : ℕ) (mark : List ℕ) (K : Ledger) → AreAlike (entry.Printed j mark ∷ K) K
printed j mark K = record { counts = refl; opens = λ m. refl; sent = λ b. (λ s. s, λ s. s); released = λ b. (λ s. s, λ s. s); debited = λ a. (λ t. t, λ t. t) }

pub rates : (text : List ℕ) (K : Ledger) → AreAlike (entry.Rates text ∷ K) K
rates text K = record { counts = refl; opens = λ m. refl; sent = λ b. (λ s. s, λ s. s); released = λ b. (λ s. s, λ s. s); debited = λ a. (λ t. t, λ t. t) }

-- what is seen of a node that is off, by the commits that count and the open one
abbrev view_by : {S : Type 0} → (List Commit → S) → List Commit → Option Commit → View S
view_by seen C change = record { state = seen C; next = option_map (λ c. seen (c ∷ C)) change; on = false }

module _ (K L : Ledger) (are : AreAlike K L) where
  same_view : {S : Type 0} (m : Node) (seen : List Commit → S) → view_in m seen (entry.Begin ∷ K) ≡ view_in m seen (entry.Begin ∷ L)
  same_view m seen =
      ap (λ (C : List Commit). view_by seen C (torn_of m K)) are.counts ∙ ap (λ (o : Option Commit). view_by seen (counted L) o) (are.opens m)

  same_run : (a : Audit) → SeesRun a (entry.Begin ∷ K) → SeesRun a (entry.Begin ∷ L)
  same_run a sees = record {
    day = record { day = sees.day.day; messages = sees.day.messages; rates = sees.day.rates };
    devices = λ i s at. sees.devices i s at ∙ same_view (Device (i + 1)) (bench_kinds.devices.seen (i + 1));
    centre = sees.centre ∙ same_view Centre (bench_kinds.centre.seen tt);
    host = sees.host ∙ same_view Host (bench_kinds.host.seen tt);
    verifier = sees.verifier ∙ same_view Verifier (bench_kinds.verifier.seen tt);
  }

  -- ALIKE, THEY LOOK ALIKE
  pub looks : LooksLike K L
  looks a sees = record {
    run = same_run a sees.run;
    known = record {
      sent = λ kept bytes. let w = sees.known.sent kept bytes in let v = are.sent bytes in (λ h. v.0 (w.0 h), λ s. w.1 (v.1 s));
      released = λ kept mark. let w = sees.known.released kept mark in let v = are.released mark in (λ h. v.0 (w.0 h), λ s. w.1 (v.1 s));
      debited = (are.debited a).0 sees.known.debited;
    };
  }

-- an auditor that sees a ledger sees it between runs
pub between : (a : Audit) (K : Ledger) → Sees a K → SeesBetween a K
between a K sees = record { ledger = K; sees = sees; alike = λ b s. s }
