-- A run that was stopped at an own line came to some reach.
use Rattle.std.proofs.Common.{arith, ◌≡◌, inl, inr, ℕ, ◌+◌, List, [], ◌∷◌, Option, Some, None, refl, ap}
use Rattle.bench_base.specs.Ledger.{Ledger}
use Rattle.ledger_moves.specs.Tariffs.{Tariff}
use Rattle.line_extensions.specs.Trace.{StepRecord}
use Rattle.line_extensions.specs.Desks.{World, world, Asks}
use Rattle.line_extensions.specs.declared.{extension.Next.Next, extension.Next.TheVariants.Say}
use Rattle.trace_extensions.specs.ClaimsModel.{claims_model}
use Rattle.trace_extensions.specs.DepartmentsModel.{departments_model}
use Rattle.trace_extensions.specs.FitsStopped.{ComesTo, HasDone, OwnStopped, not_begun, all_of_it, part_of_it}
use Rattle.trace_extensions.specs.ManifestModel.{manifest_model}
use Rattle.trace_extensions.specs.Models.{Model, by_model, EndsByFailure}
use Rattle.trace_extensions.specs.Places.{Place, MayStep}
use Rattle.trace_extensions.specs.Runs.{HasReach}
use Rattle.trace_extensions.specs.StatementModel.{statement_model}
use Rattle.trace_extensions.specs.Words.{Word, OfClaims, OfDepartments, OfManifests, OfStatements}
use Rattle.trace_extensions.proofs.ClaimsModel.{claims_ends}
use Rattle.trace_extensions.proofs.DepartmentsModel.{departments_ends}
use Rattle.trace_extensions.proofs.FailedSteps.{failing}
use Rattle.trace_extensions.proofs.ManifestModel.{manifest_ends}
use Rattle.trace_extensions.proofs.Reached.{turn_reply}
use Rattle.trace_extensions.proofs.StatementModel.{statement_ends}

module _ {V : Type 0} (m : Model V) (ends : EndsByFailure m) (τ : Tariff) where
  -- nothing is done behind the answer
  none_behind : (at new : World Place V) (first : Next) (steps : List StepRecord) (last : Next) → first ≡ Say → Asks (by_model m) (MayStep τ) at new first steps last → steps ≡ []
  none_behind at new first [] last is asks = refl
  none_behind at new first (d ∷ steps) last is asks = absurd (cc (is, asks.2.asks))

  -- a failure of a node comes last
  has_done : (at new : World Place V) (first : Next) (steps : List StepRecord) (last : Next) → Asks (by_model m) (MayStep τ) at new first steps last → (count : ℕ) × HasDone count steps
  has_done at new first [] last asks = (0, record { fine = []; last = []; are = refl; many = refl; each = tt; fails = tt })
  has_done at new first (d ∷ steps) last asks = elim (failing d.reply) [
    | inl failed ↦
        let over = ends at.desk asks.0.desk asks.2.turn asks.1 failed.0 (turn_reply m τ at asks.0 first asks.1 d failed.0 asks.2 failed.1) asks.2.goes in (
          0,
          record {
            fine = [];
            last = d ∷ [];
            are = ap (λ (l : List StepRecord). d ∷ l) (none_behind asks.0 new asks.1 steps last over.0 asks.3);
            many = refl;
            each = tt;
            fails = failed;
          },
        )
    | inr fine ↦
        let more = has_done asks.0 new asks.1 steps last asks.3 in (
          more.0 + 1,
          record {
            fine = d ∷ more.1.fine;
            last = more.1.last;
            are = ap (λ (l : List StepRecord). d ∷ l) more.1.are;
            many = omega (arith, more.1.many);
            each = (fine, more.1.each);
            fails = more.1.fails;
          },
        )
  ]

  has_reach : (at : World Place V) (line told : List ℕ) (K : Ledger) (kept : V) (stop : OwnStopped m τ at line told K kept) → (steps : Option ℕ) × ComesTo m τ at line told K kept steps stop
  has_reach at line told K kept (not_begun own x) = (None, tt)
  has_reach at line told K kept (all_of_it own x) = let w = has_done (world at.scene x.did.desk) x.behind x.did.first x.steps _ x.did.asks in (Some w.0, w.1)
  has_reach at line told K kept (part_of_it own x) = let w = has_done (world at.scene x.did.desk) x.behind x.did.first x.steps _ x.did.asks in (Some w.0, w.1)

-- THE REACH OF A STOP, for each word
pub have_reaches : (word : Word) → HasReach word
have_reaches OfClaims = λ τ at line told K kept stop. has_reach claims_model claims_ends τ at line told K kept stop
have_reaches OfDepartments = λ τ at line told K kept stop. has_reach departments_model departments_ends τ at line told K kept stop
have_reaches OfManifests = λ τ at line told K kept stop. has_reach manifest_model manifest_ends τ at line told K kept stop
have_reaches OfStatements = λ τ at line told K kept stop. has_reach statement_model statement_ends τ at line told K kept stop
