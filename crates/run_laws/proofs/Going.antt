-- Going over what was done in a run.
use Rattle.std.proofs.Common.{◌≡◌, ℕ, zero, suc, ◌<◌, List, [], ◌∷◌, ◌++◌, length, get_or, refl, subst, sym, arith}
use Rattle.std.specs.Prelude.{Contains}
use Rattle.bench_base.specs.declared.events.Event.{Event}
use Rattle.bench_base.specs.declared.events.Event.TheVariants as ev
use Rattle.bench_base.specs.Ledger.{Ledger}
use Rattle.bench_base.specs.Replies.{class_of}
use Rattle.bench_base.specs.Rules.{todays_rules}
use Rattle.bench_base.specs.Questions.{IsAccepted}
use Rattle.line_extensions.specs.Trace.{StepRecord}
use Rattle.ledger_moves.specs.Histories as histories
use Rattle.ledger_moves.specs.Moves.{plan}
use Rattle.ledger_moves.specs.Tariffs.{Tariff}
use Rattle.scan_laws.proofs.Accepting.{accepts_now}
use Rattle.scan_laws.proofs.Entries.{accepted_kept, released_kept}
use Rattle.script_replay.specs.Trace.{ledger_by, ledger_after, RunWhile, AreUnforged}
use Rattle.script_replay.specs.Run.{Unforged, Moves}
use Rattle.run_laws.specs.Trace.{AllMoved, IsAcceptedAs}

module _ (τ : Tariff) where
  pub all_moved : (H : Ledger) (steps : List StepRecord) → AreUnforged τ Unforged H steps → RunWhile τ Unforged (Moves τ) H steps → AllMoved τ H steps
  all_moved H [] unforged run = tt
  all_moved H (d ∷ rest) unforged run = let here = run unforged.0 in (unforged.0, here.0, all_moved (ledger_by τ H d) rest unforged.1 here.1)

  -- == one part after another ==

  pub first_moved : (H : Ledger) (a b : List StepRecord) → AllMoved τ H (a ++ b) → AllMoved τ H a
  first_moved H [] b did = tt
  first_moved H (d ∷ a) b did = (did.0, did.1, first_moved (ledger_by τ H d) a b did.2)

  pub rest_moved : (H : Ledger) (a b : List StepRecord) → AllMoved τ H (a ++ b) → AllMoved τ (ledger_after τ H a) b
  rest_moved H [] b did = did
  rest_moved H (d ∷ a) b did = rest_moved (ledger_by τ H d) a b did.2

  pub after_both : (H : Ledger) (a b : List StepRecord) → ledger_after τ (ledger_after τ H a) b ≡ ledger_after τ H (a ++ b)
  after_both H [] b = refl
  after_both H (d ∷ a) b = after_both (ledger_by τ H d) a b

  -- == scans ==

  module _ (n : ℕ) (bytes : List ℕ) where
    stays_by : (H : Ledger) (d : StepRecord) → IsAcceptedAs n bytes H → IsAcceptedAs n bytes (ledger_by τ H d)
    stays_by H d is = record {
      mark = is.mark;
      code = is.code;
      reads = is.reads;
      released = released_kept bytes (plan τ todays_rules H d.event d.text) (class_of d.reply) H is.released;
      accepted = accepted_kept is.mark.device is.mark.piece n (plan τ todays_rules H d.event d.text) (class_of d.reply) H is.accepted;
    }

    -- a piece that was accepted stays so
    pub stays : (H : Ledger) (steps : List StepRecord) → IsAcceptedAs n bytes H → IsAcceptedAs n bytes (ledger_after τ H steps)
    stays H [] is = is
    stays H (d ∷ rest) is = stays (ledger_by τ H d) rest (stays_by H d is)

    module _ (d : StepRecord) (event : d.event ≡ ev.ScanHex n bytes) (accepts : IsAccepted d.reply) where
      -- the scan was answered by an acceptance
      pub scanned : (H : Ledger) → Unforged H d.event → Moves τ H d → IsAcceptedAs n bytes (ledger_by τ H d)
      scanned H unforged moves =
          let a = accepts_now τ H d.event d.text d.reply n bytes accepts.0 accepts.1 accepts.2 accepts.3 event accepts.4 moves in
          let known = subst (λ (e : Event). histories.Unforged e H) event unforged in
          record {
            mark = a.mark;
            code = a.code;
            reads = a.reads;
            released = released_kept bytes (plan τ todays_rules H d.event d.text) (class_of d.reply) H (a.released known);
            accepted = a.now;
          }

      by_place : (H : Ledger) (steps : List StepRecord) (k : ℕ) → AllMoved τ H steps → k < length steps → get_or steps k d ≡ d → IsAcceptedAs n bytes (ledger_after τ H steps)
      by_place H [] k did lt is = absurd (omega (arith, lt))
      by_place H (x ∷ rest) zero did lt is =
          stays (ledger_by τ H x) rest
          (subst (λ (y : StepRecord). IsAcceptedAs n bytes (ledger_by τ H y)) (sym is) (scanned H (subst (λ (y : StepRecord). Unforged H y.event) is did.0) (subst (λ (y : StepRecord). Moves τ H y) is did.1)))
      by_place H (x ∷ rest) (suc k) did lt is = by_place (ledger_by τ H x) rest k did.2 (omega (arith, lt)) is

      -- so it was among other steps
      pub scanned_among : (H : Ledger) (steps : List StepRecord) → AllMoved τ H steps → Contains steps d → IsAcceptedAs n bytes (ledger_after τ H steps)
      scanned_among H steps did within = by_place H steps within.0 did within.1 within.2
