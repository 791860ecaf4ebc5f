-- What is answered to the lines of a run, by the ledger at each of them.
use Rattle.std.specs.Prelude.{◌≡◌, ℕ, List, [], ◌∷◌}
use Rattle.bench_base.specs.Ledger.{Ledger, counted}
use Rattle.line_extensions.specs.Trace.{Skipped, Did}
use Rattle.line_extensions.specs.SideTrace.{SideStep, Plain, Own, Broken}
use Rattle.ledger_moves.specs.Tariffs.{Tariff}
use Rattle.script_replay.specs.Trace.{ledger_by, ledger_after, AreUnforged}
use Rattle.script_replay.specs.Run.{Unforged}
use Rattle.spoil_claims.specs.Answers.{AreAnswered}
use Rattle.spoil_claims.specs.Claims.{Claims}
use Rattle.spoil_claims.specs.Holds.{ClaimsHold, debited_credits}
use Rattle.spoil_claims.specs.Texts.{credits_text}
use Rattle.spoil_claims.specs.declared.{claim.ClaimLine.ClaimLine, claim.ClaimLine.TheVariants.Claim, claim.ClaimLine.TheVariants.Credits, claim.ClaimLine.TheVariants.Reserved}

-- `credits` is answered by the postage that was debited for the customer's credited claims
abbrev pub TellsDebits : ClaimLine → Claims → Ledger → List (List ℕ) → Type 0
TellsDebits (Claim c w mark) rows H texts = Unit {0}
TellsDebits (Credits w) rows H texts = texts ≡ credits_text w (debited_credits w rows (counted H)) ∷ []
TellsDebits Reserved rows H texts = Unit {0}

-- Up to the first forged event: before each line and after the last the claims that are kept then hold by the ledger so far, and `credits` is answered by it.
abbrev pub FollowLedger : Tariff → Ledger → (rows : Claims) (trace : List (SideStep ClaimLine)) (after : Claims) → AreAnswered rows trace after → Type 0
FollowLedger τ H rows [] after answers = ClaimsHold rows H
FollowLedger τ H rows (Plain (Skipped line) ∷ rest) after answers = FollowLedger τ H rows rest after answers
FollowLedger τ H rows (Plain (Did line d) ∷ rest) after answers = ClaimsHold rows H
    × (Unforged H d.event → FollowLedger τ (ledger_by τ H d) rows rest after answers.1)
FollowLedger τ H rows (Own line own steps texts ∷ rest) after answers =
    ClaimsHold rows H × TellsDebits own rows H texts × (AreUnforged τ Unforged H steps → FollowLedger τ (ledger_after τ H steps) answers.0 rest after answers.2)
FollowLedger τ H rows (Broken line own steps ∷ rest) after answers =
    ClaimsHold rows H × (AreUnforged τ Unforged H steps → FollowLedger τ (ledger_after τ H steps) answers.0 rest after answers.2)
