-- What the storage of the claims shows at each moment of a move of the desk.
use Rattle.std.proofs.Common.{◌≡◌, inl, inr, ℕ, ◌+◌, List, Option, Some, None, Bool, true, false, ◌==◌, ap}
use Rattle.bench_base.specs.declared.events.Reply.{Reply}
use Rattle.nv_model.specs.declared.nv.Nv as nv
use Rattle.node_turns.specs.declared.turn.Turn.{Turn}
use Rattle.line_extensions.specs.Desks.{World, Does}
use Rattle.line_extensions.specs.Trace.{StepRecord}
use Rattle.line_extensions.specs.Moves.{EachMove}
use Rattle.line_extensions.specs.SideTrace.{SideStep}
use Rattle.line_extensions.specs.declared.{extension.Next.Next, extension.Next.TheVariants.Say}
use Rattle.line_extensions.proofs.Moving.{each_move}
use Rattle.line_extensions.proofs.Stores.{shown_still, shown_commit}
use Rattle.spoil_claims.specs.Claims.{kept, last_claim, credits}
use Rattle.spoil_claims.specs.ClaimsDesk.{claims_desk}
use Rattle.spoil_claims.specs.Courses.{row_for, as_credited, scan_of, Says, ByFailed, ByKept, Begins, Scanned, GoesOn}
use Rattle.spoil_claims.specs.Payload.{decoded, spelled}
use Rattle.spoil_claims.specs.Storage.{ShownMeanwhile}
use Rattle.spoil_claims.specs.View.{said_of, has_failed, rows_of, view_of, Rests}
use Rattle.spoil_claims.specs.declared.{claim.ClaimLine.ClaimLine, claim.ClaimLine.TheVariants.Claim, claim.ClaimLine.TheVariants.Credits, claim.ClaimLine.TheVariants.Reserved, claim.ClaimRow.ClaimRow, claim.TheConstants.CLAIM_CELLS, desk.Desk.Desk, answer.Answer.Answer}
use Rattle.spoil_claims.specs.declared.answer.Answer.TheVariants as answers
use Rattle.spoil_claims.proofs.Numbers.{either_any}
use Rattle.spoil_claims.proofs.Stopping.{commit_of, shows_now}

module _ {N : Type 0} {g : nv.Ghosts N} where
  rests_shown : (old new : Desk N g) → Rests old new → ShownMeanwhile old new
  rests_shown old new rests = shown_still g decoded 73 CLAIM_CELLS (view_of old) (view_of new) (λ works. shows_now old works) rests.storage

  same_shown : (old new : Desk N g) → new ≡ old → ShownMeanwhile old new
  same_shown old new same = rests_shown old new (record { room = ap (λ (d : Desk N g). d.room) same; storage = ap (λ (d : Desk N g). d.nv) same; failed = ap (λ (d : Desk N g). d.failed) same })

  tries_shown : (b : Bool) (x : ClaimRow) (meant : Answer) (then : Next) (old : Desk N g) (next : Next) (new : Desk N g) → ByFailed b x meant then old next new → ShownMeanwhile old new
  tries_shown true x meant then old next new did = rests_shown old new did.1
  tries_shown false x meant then old next new did =
      shown_commit g decoded 73 CLAIM_CELLS (view_of old) (view_of new) (λ works. shows_now old works) spelled (commit_of x) old.cells did.result did.commits did.failed

  says_shown : (answer : Answer) (old : Desk N g) (next : Next) (new : Desk N g) → Says answer old next new → ShownMeanwhile old new
  says_shown answer old next new says = rests_shown old new says.rests

  -- == before the scan ==

  claim_shown : (o : Option ClaimRow) (c w : ℕ) (mark : List ℕ) (old : Desk N g) (next : Next) (new : Desk N g) → ByKept o c w mark old next new → ShownMeanwhile old new
  claim_shown (Some x) c w mark old next new (inl known) =
      either_any x.credited (λ again. says_shown (answers.Credited c again.mark true) old next new again.says) (λ scans. rests_shown old new scans.rests) known.1
  claim_shown (Some x) c w mark old next new (inr other) = says_shown answers.Conflict old next new other.1
  claim_shown None c w mark old next new did =
      either_any (c == last_claim (rows_of old) + 1)
      (λ fits. either_any (c == 1025) (λ full. says_shown answers.Full old next new full)
      (λ tries. tries_shown (has_failed old) (row_for c w mark) (answers.Scanning c) (scan_of (row_for c w mark)) old next new tries) fits)
      (λ wrong. says_shown (answers.WrongClaim (last_claim (rows_of old))) old next new wrong) did

  begins_shown : (old new : Desk N g) (own : ClaimLine) (next : Next) → Begins old own next new → ShownMeanwhile old new
  begins_shown old new (Claim c w mark) next begins = claim_shown (kept (rows_of old) c) c w mark old next new begins
  begins_shown old new (Credits w) next begins = says_shown (answers.Credits w (credits w (rows_of old))) old next new begins
  begins_shown old new Reserved next begins = says_shown answers.Reserved old next new begins

  -- == after it ==

  scan_shown : (c : ℕ) (reply : Reply) (old : Desk N g) (next : Next) (new : Desk N g) → Scanned c reply old next new → ShownMeanwhile old new
  scan_shown c reply old next new did = elim did.did [
    | inl credit ↦ tries_shown (has_failed old) (as_credited did.row) (answers.Credited did.row.claim credit.1.mark false) Say old next new credit.1.tries
    | inr other ↦ says_shown (answers.Scan reply) old next new other.1
  ]

  goes_shown : (s : Answer) (reply : Reply) (old : Desk N g) (next : Next) (new : Desk N g) → GoesOn s reply old next new → ShownMeanwhile old new
  goes_shown (answers.Scanning c) reply old next new did = scan_shown c reply old next new did
  goes_shown answers.Nothing reply old next new did = same_shown old new did.1
  goes_shown (answers.Credited c mark again) reply old next new did = same_shown old new did.1
  goes_shown (answers.Credits w sum) reply old next new did = same_shown old new did.1
  goes_shown answers.Conflict reply old next new did = same_shown old new did.1
  goes_shown (answers.WrongClaim last) reply old next new did = same_shown old new did.1
  goes_shown answers.Full reply old next new did = same_shown old new did.1
  goes_shown answers.Reserved reply old next new did = same_shown old new did.1
  goes_shown answers.Worn reply old next new did = same_shown old new did.1
  goes_shown (answers.Scan r) reply old next new did = same_shown old new did.1

  -- == a run ==

  pub all_shown : {B : Type 0} (Steps : B → B → StepRecord → Turn → Type 0) (old new : World B (Desk N g)) (trace : List (SideStep ClaimLine)) (did : Does (claims_desk g) Steps old new trace)
      → EachMove (claims_desk g) Steps ShownMeanwhile old new trace did
  all_shown Steps old new trace did =
      each_move (claims_desk g) Steps ShownMeanwhile (λ s t own next begins. begins_shown s t own next begins) (λ s t turn next goes. goes_shown (said_of s) turn.reply s next t goes)
      (λ s t e turn sees. same_shown s t sees) old new trace did
