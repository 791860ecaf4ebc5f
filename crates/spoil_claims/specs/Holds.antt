-- What is promised of claims, by a ledger.
use Rattle.std.specs.Prelude.{◌≡◌, ◌<◌, ◌≤◌, ℕ, List, Option, Some, None, true, ◌==◌, ◌&&◌, if◌then◌else◌, sum_by, unwrap_or, Contains}
use Rattle.bench_base.specs.declared.{ledger.Commit.Commit, ledger.Commit.TheVariants.Accepted}
use Rattle.bench_base.specs.Ledger.{Ledger, IsReleased, counted}
use Rattle.bench_base.specs.Scans.{accepted}
use Rattle.indicium.specs.declared.Mark.{Mark}
use Rattle.node_acts.specs.RowList.{row_of}
use Rattle.ledger_terms.specs.Further.{postage_of}
use Rattle.scan_laws.specs.Acceptances.{EachAccepted}
use Rattle.spoil_claims.specs.Claims.{Claims, IsHere, kept, mark_of, scan_number, credits}
use Rattle.spoil_claims.specs.declared.claim.ClaimRow.{ClaimRow}

-- claim c is kept as credited, and its mark reads as this one
pub record IsCredited (rows : Claims) (c : ℕ) (x : ClaimRow) (k : Mark) : Type 0 where
  pub first : 1 ≤ c
  pub here : kept rows c ≡ Some x
  pub credited : x.credited ≡ true
  pub reads : mark_of x.mark ≡ Some k

-- the number is that of a claim that is kept, with a mark of this piece
pub record IsClaimed (rows : Claims) (d p n : ℕ) : Type 0 where
  pub claim : ClaimRow
  pub mark : Mark
  pub here : IsHere rows claim
  pub reads : mark_of claim.mark ≡ Some mark
  pub device : mark.device ≡ d
  pub piece : mark.piece ≡ p
  pub number : n ≡ scan_number claim.claim

-- the mark of the claim was released, and its piece was first accepted under the number of the claim
pub record IsUsedUp (c : ℕ) (x : ClaimRow) (k : Mark) (H : Ledger) : Type 0 where
  pub released : IsReleased x.mark H
  pub accepted : accepted k.device k.piece (counted H) ≡ Some (scan_number c)

-- THE PREMISES ON CLAIMS OF EARLIER RUNS, by what they left. Each piece that was accepted under a number above 3,000,000,000, also by a commit that
-- is open, was that of a claim. The piece of each credited claim was used up.
pub record AreBacked (rows : Claims) (L : Ledger) : Type 0 where
  pub reserved : EachAccepted (λ d p n. 3000000000 < n → IsClaimed rows d p n) L
  pub credited : (c : ℕ) (x : ClaimRow) (k : Mark) → IsCredited rows c x k → IsUsedUp c x k L

-- the postage of the debit of this mark's piece
abbrev pub debit_in : List Commit → Option Mark → ℕ
debit_in C None = 0
debit_in C (Some k) = unwrap_or (postage_of k.device k.piece C) 0

abbrev pub debit_of : ℕ → List Commit → Option ClaimRow → ℕ
debit_of w C None = 0
debit_of w C (Some x) = if x.credited && (x.customer == w) then debit_in C (mark_of x.mark) else 0

-- the postage of the debits of the pieces of the customer's credited claims
abbrev pub debited_credits : ℕ → Claims → List Commit → ℕ
debited_credits w rows C = sum_by (λ o. debit_of w C (row_of o)) rows

-- WHAT IS PROMISED: a credited piece was accepted under the number of its claim and no other, so it is no mail; no piece is credited twice; and what
-- is credited is the postage that was debited. The premises of a next run hold then, so the same is true after it.
pub record ClaimsHold (rows : Claims) (H : Ledger) : Type 0 where
  pub used : (c : ℕ) (x : ClaimRow) (k : Mark) → IsCredited rows c x k → accepted k.device k.piece (counted H) ≡ Some (scan_number c)
  pub once : (c e : ℕ) (x y : ClaimRow) (k l : Mark) → IsCredited rows c x k → IsCredited rows e y l → k.device ≡ l.device → k.piece ≡ l.piece → c ≡ e
  pub no_mail : (c : ℕ) (x : ClaimRow) (k : Mark) → IsCredited rows c x k → (n : ℕ) → Contains (counted H) (Accepted k.device k.piece n) → n ≡ scan_number c
  pub debited : (c : ℕ) (x : ClaimRow) (k : Mark) → IsCredited rows c x k → postage_of k.device k.piece (counted H) ≡ Some k.postage
  pub sums : (w : ℕ) → credits w rows ≡ debited_credits w rows (counted H)
  pub backed : AreBacked rows H
