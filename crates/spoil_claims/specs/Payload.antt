-- The 73 bytes of a claim.
use Rattle.std.specs.Prelude.{◌≡◌, ◌⊎◌, ℕ, ◌+◌, List, [], ◌∷◌, ◌++◌, drop, get_or, Bool, true, false, Option, Some, None, is_ok, IsOk, ◌==◌, ◌&&◌, ◌||◌, nat_lt, if◌then◌else◌}
use Rattle.bench_base.specs.Ranges.{IsCustomer}
use Rattle.bench_base.specs.Table.{Size, One, Four, row, values}
use Rattle.indicium.specs.Marks.{read_mark}
use Rattle.spoil_claims.specs.declared.claim.ClaimRow.{ClaimRow}

-- claim, customer and state; the mark follows them
abbrev pub claim_table : List Size
claim_table = Four ∷ Four ∷ One ∷ []

-- 1 is open, and 2 credited
abbrev pub state_byte : Bool → ℕ
state_byte false = 1
state_byte true = 2

-- the numbers of a claim
abbrev pub head : ClaimRow → List ℕ
head x = x.claim ∷ x.customer ∷ state_byte x.credited ∷ []

unfoldable pub head_part : ClaimRow → List ℕ
head_part x = row claim_table (head x)

-- the 73 bytes that are written for a claim
abbrev pub spelled : ℕ → ClaimRow → List ℕ
spelled k x = head_part x ++ x.mark

-- the claim of these numbers and this mark
abbrev pub claim_from : List ℕ → List ℕ → ClaimRow
claim_from vs mark = record { claim = get_or vs 0 0; customer = get_or vs 1 0; credited = get_or vs 2 0 == 2; mark = mark }

-- cell k may hold it
abbrev pub is_claim_of : ℕ → List ℕ → List ℕ → Bool
is_claim_of k vs mark =
    (get_or vs 0 0 == k + 1) && ((nat_lt 0 (get_or vs 1 0) && nat_lt (get_or vs 1 0) 65)
    && (((get_or vs 2 0 == 1) || (get_or vs 2 0 == 2)) && is_ok (read_mark mark)))

-- the claim of cell k that these numbers and this mark are, if they are one
unfoldable pub claim_in : ℕ → List ℕ → List ℕ → Option ClaimRow
claim_in k vs mark = if is_claim_of k vs mark then Some (claim_from vs mark) else None

-- the claim that the payload of cell k reads as, if it reads as one
unfoldable pub decoded : ℕ → List ℕ → Option ClaimRow
decoded k payload = claim_in k (values 0 claim_table payload) (drop 9 payload)

-- cell k may hold the claim: it has the cell's number, and its mark reads
pub record IsFit (k : ℕ) (x : ClaimRow) : Type 0 where
  pub number : x.claim ≡ k + 1
  pub customer : IsCustomer x.customer
  pub reads : IsOk (read_mark x.mark)

-- the numbers and the mark are those of a claim of cell k
pub record AreClaim (k : ℕ) (vs mark : List ℕ) : Type 0 where
  pub number : get_or vs 0 0 ≡ k + 1
  pub customer : IsCustomer (get_or vs 1 0)
  pub state : (get_or vs 2 0 ≡ 1) ⊎ (get_or vs 2 0 ≡ 2)
  pub reads : IsOk (read_mark mark)
