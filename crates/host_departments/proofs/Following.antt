-- Departments follow the ledger at each line of a run.
use Rattle.std.proofs.Common.{ℕ, List, [], ◌∷◌, Option, Some, None, ap, ◌∙◌, subst}
use Rattle.bench_base.specs.declared.ledger.Entry.TheVariants.{Begin}
use Rattle.bench_base.specs.Ledger.{Ledger}
use Rattle.bench_base.specs.Rules.{editions}
use Rattle.ledger_terms.specs.Editions.{Editions}
use Rattle.ledger_moves.specs.Tariffs.{Tariff}
use Rattle.node_turns.specs.declared.turn.Turn.{Turn}
use Rattle.line_extensions.specs.Trace.{StepRecord, Skipped, Did}
use Rattle.line_extensions.specs.SideTrace.{SideStep, Plain, Own, Broken}
use Rattle.script_replay.specs.Trace.{ledger_by, ledger_after}
use Rattle.host_departments.specs.Answers.{Answered, IsTold, ByQuota, IsAnswered, CellCommit, AreAnswered}
use Rattle.host_departments.specs.DepartmentLines.{IsLine}
use Rattle.host_departments.specs.Follows.{TellsOrders, FollowLedger}
use Rattle.host_departments.specs.Holds.{AreBacked, DepartmentsHold}
use Rattle.host_departments.specs.Rows.{Rows, spent}
use Rattle.host_departments.specs.Texts.{spent_text}
use Rattle.host_departments.specs.declared.{row.DepartmentLine.DepartmentLine, row.DepartmentLine.TheVariants.Quota, row.DepartmentLine.TheVariants.Assign, row.DepartmentLine.TheVariants.Spent, row.DepartmentLine.TheVariants.Print}
use Rattle.host_departments.proofs.Backing.{begun, kept_by, at_after, still, answered}
use Rattle.host_departments.proofs.Holding.{departments_hold}
use Rattle.host_departments.proofs.Tracking.{StepsLedger}

told_orders : (own : DepartmentLine) (rows : Rows) (H : Ledger) (a : Answered) → DepartmentsHold rows H → IsLine own → IsAnswered own rows a → TellsOrders own rows H a.texts
told_orders (Quota d q) rows H a holds line answer = tt
told_orders (Assign d j) rows H a holds line answer = tt
told_orders (Spent d) rows H a holds line answer = λ q is.
    let told : ByQuota (Some q) d rows (λ p x. IsTold (spent_text d (spent rows d) p) rows x) a = subst (λ (o : Option ℕ). ByQuota o d rows (λ p x. IsTold (spent_text d (spent rows d) p) rows x) a) is answer in
    told.texts ∙ ap (λ (sum : ℕ). spent_text d sum q ∷ []) (holds.spent d line)
told_orders (Print j) rows H a holds line answer = tt

module _ (τ : Tariff) {B : Type 0} (Steps : B → B → StepRecord → Turn → Type 0) (ledger : StepsLedger τ Steps) (today : Editions editions) where
  follow : (s : B) (rows : Rows) (H : Ledger) (trace : List (SideStep DepartmentLine)) (t : B) (then : Rows) (failed : Option CellCommit) → ledger.At s H → AreBacked rows H
      → (answers : AreAnswered Steps s rows trace t then failed) → FollowLedger Steps τ H s rows trace t then failed answers
  follow s rows H [] t then failed at b did = departments_hold today τ H (ledger.history s H at) rows b
  follow s rows H (Plain (Skipped line) ∷ rest) t then failed at b did = follow s rows H rest t then failed at b did
  follow s rows H (Plain (Did line d) ∷ rest) t then failed at b did = (
    departments_hold today τ H (ledger.history s H at) rows b,
    λ u. follow did.0 rows (ledger_by τ H d) rest t then failed (ledger.goes s did.0 d did.1.turn H did.1.did at u) (λ k j p is. kept_by τ H d j p (b k j p is)) did.2,
  )
  follow s rows H (Own line own steps said ∷ rest) t then failed at b did =
      let told = did.2 in
      let holds = departments_hold today τ H (ledger.history s H at) rows b in
      let a : Answered = record { asked = told.asked; texts = said; after = did.1 } in (
        holds,
        told_orders own rows H a holds told.line told.answered,
        λ u. follow did.0 did.1 (ledger_after τ H steps) rest t then failed (at_after τ Steps ledger today s steps told.asked did.0 H told.done at u)
            (answered τ Steps ledger today s did.0 rows H steps at b a told.done own told.answered) did.3,
      )
  follow s rows H (Broken line own steps ∷ rest) t then failed at b did =
      let cut_off = did.2 in (
        departments_hold today τ H (ledger.history s H at) rows b,
        λ u. follow did.0 rows (ledger_after τ H steps) rest t then None (at_after τ Steps ledger today s steps cut_off.asked did.0 H cut_off.done at u) (still τ Steps ledger today s did.0 rows H steps at b) did.4,
      )

  -- from the beginning of a run on
  pub follow_all : (L : Ledger) (s : B) (rows : Rows) (trace : List (SideStep DepartmentLine)) (t : B) (then : Rows) (failed : Option CellCommit) → ledger.At s (Begin ∷ L)
      → AreBacked rows L → (answers : AreAnswered Steps s rows trace t then failed) → FollowLedger Steps τ (Begin ∷ L) s rows trace t then failed answers
  follow_all L s rows trace t then failed at b answers = follow s rows (Begin ∷ L) trace t then failed at (begun rows L b) answers
