-- What the desk does for an own line: before its scan, and after it.
use Rattle.std.specs.Prelude.{◌≡◌, ℕ, ◌-◌, List, Bool, true, false, Option, Result, Ok, Err}
use Rattle.bench_base.specs.declared.{events.Reply.Reply, refusals.StoreFail.StoreFail}
use Rattle.bench_base.specs.declared.refusals.StoreFail.TheVariants as fail
use Rattle.nv_model.specs.declared.nv.Nv.{Ghosts}
use Rattle.nv_store.specs.Fails.{ends_failed}
use Rattle.line_extensions.specs.declared.{extension.Next.Next, extension.Next.TheVariants.Say, extension.Next.TheVariants.Stop}
use Rattle.row_store.specs.Commits.{CommitsRow}
use Rattle.spoil_claims.specs.Moves as moves
use Rattle.spoil_claims.specs.Moves.{Keeper}
pub use Rattle.spoil_claims.specs.Moves.{row_for, as_credited, scan_of, Either, IsSame}
use Rattle.spoil_claims.specs.Payload.{decoded, spelled}
use Rattle.spoil_claims.specs.View.{said_of, has_failed, rows_of, store_of, Rests}
use Rattle.spoil_claims.specs.declared.{claim.ClaimLine.ClaimLine, claim.ClaimRow.ClaimRow, desk.Desk.Desk, answer.Answer.Answer}
use Rattle.spoil_claims.specs.declared.answer.Answer.TheVariants as answers

-- what follows a commit by how it ended: after Ok what was meant to, at a worn cell that answer, and otherwise the end of the run
abbrev pub Follows : Result (Unit {0}) StoreFail → Answer → Next → Answer → Next → Type 0
Follows (Ok done) meant then now next = (now ≡ meant) × (next ≡ then)
Follows (Err fail.Worn) meant then now next = (now ≡ answers.Worn) × (next ≡ Say)
Follows (Err fail.Power) meant then now next = next ≡ Stop
Follows (Err fail.Fault) meant then now next = next ≡ Stop
Follows (Err fail.Failed) meant then now next = next ≡ Stop

module _ {N : Type 0} {g : Ghosts N} where
  -- a commit of this claim to its cell
  pub record Commits (x : ClaimRow) (meant : Answer) (then : Next) (old : Desk N g) (next : Next) (new : Desk N g) : Type 0 where
    pub result : Result (Unit {0}) StoreFail
    pub commits : CommitsRow g.tells decoded spelled 73 (x.claim - 1) x (store_of old) (store_of new) result
    pub failed : has_failed new ≡ ends_failed result
    pub follows : Follows result meant then (said_of new) next

  -- it was tried; where one had failed before, the run ends
  abbrev pub ByFailed : Bool → ClaimRow → Answer → Next → Desk N g → Next → Desk N g → Type 0
  ByFailed true x meant then old next new = (next ≡ Stop) × Rests old new
  ByFailed false x meant then old next new = Commits x meant then old next new

  abbrev pub Tries : ClaimRow → Answer → Next → Desk N g → Next → Desk N g → Type 0
  Tries x meant then old next new = ByFailed (has_failed old) x meant then old next new

-- the desk in its storage
abbrev pub stored : {N : Type 0} (g : Ghosts N) → Keeper (Desk N g)
stored g = record {
  rows = λ k. rows_of k;
  said = λ k. said_of k;
  Rests = λ old new. Rests old new;
  Tries = λ x meant then old next new. Tries x meant then old next new;
}

-- == what a desk does, of the desk in its storage ==

module _ {N : Type 0} {g : Ghosts N} where
  abbrev pub Says : Answer → Desk N g → Next → Desk N g → Type 0
  Says answer old next new = moves.Says (stored g) answer old next new

  abbrev pub Scans : ClaimRow → Desk N g → Next → Desk N g → Type 0
  Scans x old next new = moves.Scans (stored g) x old next new

  abbrev pub Repeats : ℕ → ClaimRow → Desk N g → Next → Desk N g → Type 0
  Repeats c x old next new = moves.Repeats (stored g) c x old next new

  abbrev pub Known : ℕ → ℕ → List ℕ → ClaimRow → Desk N g → Next → Desk N g → Type 0
  Known c w mark x old next new = moves.Known (stored g) c w mark x old next new

  abbrev pub Unknown : ℕ → ℕ → List ℕ → Desk N g → Next → Desk N g → Type 0
  Unknown c w mark old next new = moves.Unknown (stored g) c w mark old next new

  abbrev pub ByKept : Option ClaimRow → ℕ → ℕ → List ℕ → Desk N g → Next → Desk N g → Type 0
  ByKept o c w mark old next new = moves.ByKept (stored g) o c w mark old next new

  abbrev pub Begins : Desk N g → ClaimLine → Next → Desk N g → Type 0
  Begins old own next new = moves.Begins (stored g) old own next new

  abbrev pub Credited : ClaimRow → Desk N g → Next → Desk N g → Type 0
  Credited x old next new = moves.Credited (stored g) x old next new

  abbrev pub Scanned : ℕ → Reply → Desk N g → Next → Desk N g → Type 0
  Scanned c reply old next new = moves.Scanned (stored g) c reply old next new

  abbrev pub GoesOn : Answer → Reply → Desk N g → Next → Desk N g → Type 0
  GoesOn answer reply old next new = moves.GoesOn (stored g) answer reply old next new
