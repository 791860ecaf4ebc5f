-- The claims that are kept, one a cell.
use Rattle.std.specs.Prelude.{◌≡◌, ◌≤◌, ℕ, ◌+◌, ◌-◌, List, Option, Some, None, IsSome, Ok, Err, Result, sum_by, if◌then◌else◌, ◌==◌, ◌&&◌}
use Rattle.node_acts.specs.RowList.{RowList, row_at, row_of}
use Rattle.indicium.specs.Marks.{read_mark}
use Rattle.indicium.specs.declared.Mark.{Mark}
use Rattle.bench_base.specs.declared.refusals.MarkFault.{MarkFault}
use Rattle.spoil_claims.specs.declared.claim.ClaimRow.{ClaimRow}

abbrev pub Claims : Type 0
Claims = RowList ClaimRow

-- the claim in cell k
abbrev pub claim_at : Claims → ℕ → Option ClaimRow
claim_at rows k = row_of (row_at rows k)

-- claim c, which lies in cell c - 1
abbrev pub kept : Claims → ℕ → Option ClaimRow
kept rows c = claim_at rows (c - 1)

-- each claim lies in the cell of its number
abbrev pub AreNumbered : Claims → Type 0
AreNumbered rows = (c : ℕ) (x : ClaimRow) → 1 ≤ c → kept rows c ≡ Some x → x.claim ≡ c

-- claims lie in cells 0, 1 and so on: before each but the first there is one
abbrev pub HasNoGaps : Claims → Type 0
HasNoGaps rows = (k : ℕ) → IsSome (claim_at rows (k + 1)) → IsSome (claim_at rows k)

-- the number under which claim c scans
abbrev pub scan_number : ℕ → ℕ
scan_number c = 3000000000 + c

-- the claim is kept under its number
pub record IsHere (rows : Claims) (x : ClaimRow) : Type 0 where
  pub first : 1 ≤ x.claim
  pub here : kept rows x.claim ≡ Some x

abbrev pub one_in : Option ClaimRow → ℕ
one_in None = 0
one_in (Some x) = 1

-- the last claim: how many there are, since they lie without gaps
abbrev pub last_claim : Claims → ℕ
last_claim rows = sum_by (λ o. one_in (row_of o)) rows

abbrev pub mark_in : Result (Mark × List ℕ) MarkFault → Option Mark
mark_in (Ok m) = Some m.0
mark_in (Err fault) = None

-- what the bytes of a mark read as
abbrev pub mark_of : List ℕ → Option Mark
mark_of bytes = mark_in (read_mark bytes)

abbrev pub postage_in : Option Mark → ℕ
postage_in None = 0
postage_in (Some m) = m.postage

abbrev pub credit_of : ℕ → Option ClaimRow → ℕ
credit_of w None = 0
credit_of w (Some x) = if x.credited && (x.customer == w) then postage_in (mark_of x.mark) else 0

-- the postage of the customer's credited claims
abbrev pub credits : ℕ → Claims → ℕ
credits w rows = sum_by (λ o. credit_of w (row_of o)) rows
