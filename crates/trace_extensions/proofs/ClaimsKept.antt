-- The claims that an audit infers hold, as those of the desk do.
use Rattle.std.proofs.Common.{◌≡◌, ℕ, ◌-◌, List, [], ◌∷◌, Option, Some, None, Bool, true, false, refl, sym, ap, ◌∙◌, subst}
use Rattle.std.specs.List.{AllByRecursion}
use Rattle.bench_base.specs.declared.ledger.Entry.TheVariants.{Begin}
use Rattle.bench_base.specs.Ledger.{Ledger}
use Rattle.bench_base.specs.Rules.{editions}
use Rattle.bench_base.proofs.Facts.{some_none}
use Rattle.bench_abstraction.specs.Tariff.{IsOfTexts}
use Rattle.ledger_moves.specs.Histories.{History, begins, nothing}
use Rattle.ledger_moves.specs.Tariffs.{Tariff}
use Rattle.ledger_terms.specs.Editions.{Editions}
use Rattle.line_extensions.specs.Desks.{World, world, side_lines, Does}
use Rattle.line_extensions.specs.SideTrace.{SideStep}
use Rattle.line_extensions.specs.Trace.{StepRecord}
use Rattle.line_extensions.specs.declared.extension.Next.{Next}
use Rattle.line_runs.specs.Runs.{Replayed}
use Rattle.line_runs.specs.Trace.{Reads}
use Rattle.line_runs.specs.declared.status.Status.{Status}
use Rattle.line_runs.specs.declared.status.SideStatus.TheVariants.{Run}
use Rattle.node_acts.specs.RowList.{is_worn}
use Rattle.node_turns.specs.declared.turn.Turn.{Turn}
use Rattle.spoil_claims.specs.Answers.{AreAnswered}
use Rattle.spoil_claims.specs.Claims.{Claims, AreNumbered, kept}
use Rattle.spoil_claims.specs.ClaimsDesk.{by_keeper}
use Rattle.spoil_claims.specs.Holds.{AreBacked}
use Rattle.spoil_claims.specs.declared.{claim.ClaimLine.ClaimLine, claim.ClaimRow.ClaimRow, answer.Answer.Answer}
use Rattle.spoil_claims.proofs.Answering.{CameOut, Done_, Worn_, Keeps, all_answered}
use Rattle.spoil_claims.proofs.Backing.{backed_after}
use Rattle.spoil_claims.proofs.Following.{follow_all}
use Rattle.spoil_claims.proofs.Holding.{claims_hold}
use Rattle.spoil_claims.proofs.Numbers.{all_numbers}
use Rattle.trace_bench.specs.Seeing.{Audit, Sees}
use Rattle.trace_runs.proofs.Alike.{between}
use Rattle.trace_runs.specs.Verdicts.{status_of}
use Rattle.trace_runs.specs.declared.verdict.Ending.{Ending}
use Rattle.trace_extensions.specs.ClaimsKept.{AtBacked, KeepClaims, RunKeepsClaims, LeavesBacked, KeptIfLawful}
use Rattle.trace_extensions.specs.ClaimsModel.{Standing, ByWorn, standing_keeper, claims_model}
use Rattle.trace_extensions.specs.Fits.{MayDoAll, FitsSo, IsLeftSo, FitsIfLawful}
use Rattle.trace_extensions.specs.Places.{Place, place, MayStep}
use Rattle.trace_extensions.specs.declared.papers.SideVerdict.{SideVerdict}
use Rattle.trace_extensions.proofs.Ran.{IsWhole, whole_end}
use Rattle.trace_extensions.proofs.Read.{MovesSo, run_read, all_moves}

-- == the model keeps claims as the desk does ==

came : (b : Bool) (x : ClaimRow) (meant : Answer) (then : Next) (old : Standing) (next : Next) (new : Standing) → is_worn old.rows (x.claim - 1) ≡ b → ByWorn b x meant then old next new
    → CameOut x meant then old.rows new.rows new.said next
came true x meant then old next new worn did = Worn_ worn (ap (λ (v : Standing). v.said) did.1) did.0 (ap (λ (v : Standing). v.rows) did.1)
came false x meant then old next new fresh did = Done_ fresh (ap (λ (v : Standing). v.said) did.1) did.0 (ap (λ (v : Standing). v.rows) did.1)

standing_keeps : Keeps standing_keeper
standing_keeps = record {
  rests = λ old new rests. rests;
  tries = λ x meant then old next new tries. came (is_worn old.rows (x.claim - 1)) x meant then old next new refl tries;
}

claims_read : MovesSo claims_model (by_keeper standing_keeper)
claims_read = record {
  own = λ x line is. (x, is);
  passes = λ v line passes. passes;
  begins = λ v w line next begins. begins;
  goes = λ v w turn next goes. goes;
  sees = λ v w e turn sees. sees;
  texts = λ v. refl;
}

same_reply : (τ : Tariff) (s t : Place) (d : StepRecord) (turn : Turn) → MayStep τ s t d turn → d.reply ≡ turn.reply
same_reply τ s t d turn may = sym (ap (λ (u : Turn). u.reply) may.turn_is)

-- == a run that fits ==

module _ (τ : Tariff) (H : Ledger) (v : Standing) (status : Status) (whole : IsWhole status) (script report rates : List ℕ) (fits : FitsSo claims_model τ (Begin ∷ H) script report rates v status)
    (numbers : AreNumbered v.rows) where
  abbrev from : World Place Standing
  from = world (place (Begin ∷ H) rates) v

  abbrev pub behind : World Place Standing
  behind = fits.run.did.behind

  -- its lines, read as lines about claims
  read : (P : List (SideStep ClaimLine) → Type 0)
      → ((ys : List (SideStep ClaimLine)) → AllByRecursion (Reads (side_lines (by_keeper standing_keeper))) ys → Does (by_keeper standing_keeper) (MayStep τ) from behind ys
      → AreAnswered v.rows ys behind.desk.rows → P ys)
      → Replayed (side_lines (by_keeper standing_keeper)) (Run status) P (Some script) (Some fits.left) (Some []) (Some report)
  read P that =
      run_read claims_model (by_keeper standing_keeper) claims_read (MayStep τ) status whole (MayDoAll claims_model τ (Begin ∷ H) rates v) P (Some script) (Some fits.left) (Some []) (Some report)
      from behind fits.run fits.run.did.does
      (λ ys reads did. that ys reads did (all_answered standing_keeper standing_keeps (MayStep τ) (same_reply τ) from behind ys numbers reads did))

  pub left_numbers : AreNumbered behind.desk.rows
  left_numbers = (read (λ ys. AreNumbered behind.desk.rows) (λ ys reads did answers. all_numbers v.rows ys behind.desk.rows numbers answers)).did

  module _ (today : Editions editions) (history : History τ editions H) (backed : AreBacked v.rows H) where
    keeps : (ys : List (SideStep ClaimLine)) → AllByRecursion (Reads (side_lines (by_keeper standing_keeper))) ys → Does (by_keeper standing_keeper) (MayStep τ) from behind ys
        → AreAnswered v.rows ys behind.desk.rows → KeepClaims τ (Begin ∷ H) v.rows behind.scene.ledger behind.desk.rows ys
    keeps ys reads did answers =
        let moved = all_moves τ (by_keeper standing_keeper) from behind ys (begins history) did in
        let b = backed_after τ standing_keeper H v.rows behind.desk.rows ys backed reads answers moved.unforged moved.run in
        record {
          unforged = moved.unforged;
          ledger = moved.ledger;
          answers = answers;
          follows = follow_all τ today standing_keeper H v.rows behind.desk.rows ys backed reads answers moved.run moved.histories;
          holds = claims_hold today τ behind.scene.ledger moved.history behind.desk.rows (subst (λ (L : Ledger). AreBacked behind.desk.rows L) (sym moved.ledger) b);
        }

    pub run_keeps : RunKeepsClaims τ (Begin ∷ H) v.rows status script report behind.scene.ledger behind.desk.rows
    run_keeps = record { left = fits.left; run = read (KeepClaims τ (Begin ∷ H) v.rows behind.scene.ledger behind.desk.rows) keeps }

-- == a lawful verdict ==

module _ (today : Editions editions) (τ : Tariff) (H : Ledger) (v w : Standing) (end : Ending) (text told rates : List ℕ) (old new : Audit) where
  leaves_backed : AtBacked old v.rows τ H → (fits : FitsSo claims_model τ (Begin ∷ H) text told rates v (status_of end)) → IsLeftSo τ new w fits.run.did.behind
      → LeavesBacked τ H v.rows w.rows (status_of end) text told new
  leaves_backed at fits left =
      let whole = whole_end (by_keeper standing_keeper) end in
      let keeps = run_keeps τ H v (status_of end) whole text told rates fits at.numbers today at.history at.backed in
      let K = fits.run.did.behind.scene.ledger in
      let same = ap (λ (s : Standing). s.rows) left.kept in
      record {
        ledger = K;
        keeps = subst (λ (rows : Claims). RunKeepsClaims τ (Begin ∷ H) v.rows (status_of end) text told K rows) same keeps;
        backed = record {
          texts = at.texts;
          history = left.history;
          sees = between new K left.sees;
          numbers = subst (λ (rows : Claims). AreNumbered rows) same (left_numbers τ H v (status_of end) whole text told rates fits at.numbers);
          backed = subst (λ (rows : Claims). AreBacked rows K) same keeps.run.did.holds.backed;
        };
      }

pub kept_if_lawful : Editions editions → (script report : Option (List ℕ)) (rates : List ℕ) (v w : Standing) (old new : Audit) (verdict : SideVerdict)
    → FitsIfLawful claims_model script report rates v w old new verdict → KeptIfLawful script report v w old new verdict
kept_if_lawful today None report rates v w old new verdict fits = tt
kept_if_lawful today (Some text) None rates v w old new verdict fits = tt
kept_if_lawful today (Some text) (Some told) rates v w old new verdict fits = λ end is τ H at.
    let so = fits end is τ H at.texts at.history at.sees in
    leaves_backed today τ H v w end text told rates old new at so.0 so.1

-- == no claim ==

pub none_numbers : (rows : Claims) → ((c : ℕ) → kept rows c ≡ None) → AreNumbered rows
none_numbers rows none c x first is = absurd (some_none (sym is ∙ none c))

pub first_backed : (audit : Audit) (rows : Claims) (τ : Tariff) → IsOfTexts τ → Sees audit [] → ((c : ℕ) → kept rows c ≡ None) → AreBacked rows [] → AtBacked audit rows τ []
first_backed audit rows τ texts sees none backed = record { texts = texts; history = nothing; sees = between audit [] sees; numbers = none_numbers rows none; backed = backed }
