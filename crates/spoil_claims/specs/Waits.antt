-- What a desk waits for.
use Rattle.std.specs.Prelude.{◌≡◌, ◌-◌, ◌≤◌, IsSome, Some}
use Rattle.std.proofs.Props.{props}
use Rattle.spoil_claims.specs.Claims.{Claims, kept}
use Rattle.spoil_claims.specs.Payload.{IsFit}
use Rattle.spoil_claims.specs.declared.{claim.ClaimRow.ClaimRow, claim.TheConstants.CLAIM_CELLS, answer.Answer.Answer}
use Rattle.spoil_claims.specs.declared.answer.Answer.TheVariants as answers

-- the claim is kept, in its cell
pub record IsStored (rows : Claims) (x : ClaimRow) : Type 0 where
  pub first : 1 ≤ x.claim
  pub last : x.claim ≤ CLAIM_CELLS
  pub fits : IsFit (x.claim - 1) x
  pub here : kept rows x.claim ≡ Some x

-- if the scan of a claim is awaited, the claim is kept
abbrev pub IsWaiting : Claims → Answer → Type 0
IsWaiting rows (answers.Scanning c) = (1 ≤ c) × IsSome (kept rows c)
IsWaiting rows _ = Unit {0}

-- == laws ==

-- that it is has one proof at most
pub waiting_prop : (rows : Claims) (s : Answer) → IsProp (IsWaiting rows s)
waiting_prop rows answers.Nothing = hlevel props
waiting_prop rows (answers.Scanning c) = hlevel props
waiting_prop rows (answers.Credited c mark again) = hlevel props
waiting_prop rows (answers.Credits w sum) = hlevel props
waiting_prop rows answers.Conflict = hlevel props
waiting_prop rows (answers.WrongClaim last) = hlevel props
waiting_prop rows answers.Full = hlevel props
waiting_prop rows answers.Reserved = hlevel props
waiting_prop rows answers.Worn = hlevel props
waiting_prop rows (answers.Scan r) = hlevel props
