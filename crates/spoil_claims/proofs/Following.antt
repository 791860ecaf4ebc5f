-- Claims follow the ledger at each line of a run.
use Rattle.std.proofs.Common.{ℕ, List, [], ◌∷◌, ◌++◌, ◌∙◌, ap}
use Rattle.std.specs.List.{AllByRecursion}
use Rattle.bench_base.specs.declared.ledger.Entry.TheVariants.{Begin}
use Rattle.bench_base.specs.Ledger.{Ledger}
use Rattle.bench_base.specs.Rules.{editions}
use Rattle.ledger_terms.specs.Editions.{Editions}
use Rattle.ledger_moves.specs.Tariffs.{Tariff}
use Rattle.run_laws.proofs.Going.{all_moved}
use Rattle.line_runs.specs.Trace.{Reads}
use Rattle.line_extensions.specs.Trace.{StepRecord, Skipped, Did}
use Rattle.line_extensions.specs.Desks.{side_lines}
use Rattle.line_extensions.specs.SideTrace.{SideStep, Plain, Own, Broken, steps_of}
use Rattle.script_replay.specs.Trace.{ledger_by, ledger_after, RunWhile}
use Rattle.script_replay.specs.Run.{Unforged, Moves}
use Rattle.script_replay.proofs.Whiles.{AreHistories, first_history, later_histories, first_while, later_while}
use Rattle.spoil_claims.specs.Answers.{IsAnswered, AreAnswered}
use Rattle.spoil_claims.specs.Claims.{Claims}
use Rattle.spoil_claims.specs.ClaimsDesk.{by_keeper}
use Rattle.spoil_claims.specs.Follows.{TellsDebits, FollowLedger}
use Rattle.spoil_claims.specs.Holds.{AreBacked, ClaimsHold}
use Rattle.spoil_claims.specs.Moves.{Keeper}
use Rattle.spoil_claims.specs.Texts.{credits_text}
use Rattle.spoil_claims.specs.declared.{claim.ClaimLine.ClaimLine, claim.ClaimLine.TheVariants.Claim, claim.ClaimLine.TheVariants.Credits, claim.ClaimLine.TheVariants.Reserved}
use Rattle.spoil_claims.proofs.Backing.{begun, passed, own_told, own_cut}
use Rattle.spoil_claims.proofs.Holding.{claims_hold}

module _ (τ : Tariff) (today : Editions editions) where
  tells_debits : (own : ClaimLine) (rows : Claims) (H : Ledger) (steps : List StepRecord) (texts : List (List ℕ)) (after : Claims) → ClaimsHold rows H → IsAnswered own rows steps texts after
      → TellsDebits own rows H texts
  tells_debits (Claim c w mark) rows H steps texts after holds answer = tt
  tells_debits (Credits w) rows H steps texts after holds answer = answer.texts_are ∙ ap (λ (sum : ℕ). credits_text w sum ∷ []) (holds.sums w)
  tells_debits Reserved rows H steps texts after holds answer = tt

  module _ {S : Type 0} (f : Keeper S) where
    follow : (rows : Claims) (H : Ledger) (trace : List (SideStep ClaimLine)) (after : Claims) → AreBacked rows H → AllByRecursion (Reads (side_lines (by_keeper f))) trace
        → (answers : AreAnswered rows trace after) → RunWhile τ Unforged (Moves τ) H (steps_of trace) → AreHistories τ H (steps_of trace) → FollowLedger τ H rows trace after answers
    follow rows H [] after b reads answers run are = claims_hold today τ H are rows b
    follow rows H (Plain (Skipped line) ∷ rest) after b reads answers run are = follow rows H rest after b reads.1 answers run are
    follow rows H (Plain (Did line d) ∷ rest) after b reads answers run are =
        (claims_hold today τ H are.0 rows b, λ u. follow rows (ledger_by τ H d) rest after (passed τ rows H line d reads.0.is.0 answers.0 b) reads.1 answers.1 (run u).1 (are.1 u))
    follow rows H (Own line own steps texts ∷ rest) after b reads answers run are =
        let holds = claims_hold today τ H (first_history τ H (steps ++ steps_of rest) are) rows b in (
          holds,
          tells_debits own rows H steps texts answers.0 holds answers.1,
          λ u.
              let did = all_moved τ H steps u (first_while τ (Moves τ) H steps (steps_of rest) run) in
              follow answers.0 (ledger_after τ H steps) rest after (own_told τ rows H b steps did answers.0 own texts answers.1) reads.1 answers.2
              (later_while τ (Moves τ) H steps (steps_of rest) u run) (later_histories τ H steps (steps_of rest) u are),
        )
    follow rows H (Broken line own steps ∷ rest) after b reads answers run are = (
      claims_hold today τ H (first_history τ H (steps ++ steps_of rest) are) rows b,
      λ u.
          let did = all_moved τ H steps u (first_while τ (Moves τ) H steps (steps_of rest) run) in
          follow answers.0 (ledger_after τ H steps) rest after (own_cut τ rows H b steps did answers.0 own answers.1) reads.1 answers.2
          (later_while τ (Moves τ) H steps (steps_of rest) u run) (later_histories τ H steps (steps_of rest) u are),
    )

    -- from the beginning of a run on
    pub follow_all : (L : Ledger) (rows after : Claims) (trace : List (SideStep ClaimLine)) → AreBacked rows L → AllByRecursion (Reads (side_lines (by_keeper f))) trace
        → (answers : AreAnswered rows trace after) → RunWhile τ Unforged (Moves τ) (Begin ∷ L) (steps_of trace) → AreHistories τ (Begin ∷ L) (steps_of trace)
        → FollowLedger τ (Begin ∷ L) rows trace after answers
    follow_all L rows after trace b reads answers run are = follow rows (Begin ∷ L) trace after (begun rows L b) reads answers run are
