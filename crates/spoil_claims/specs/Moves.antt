-- What a desk of claims does for an own line, before its scan and after it, whatever its storage is.
use Rattle.std.specs.Prelude.{◌≡◌, ◌⊎◌, ℕ, ◌+◌, List, Bool, true, false, Option, Some, None, ◌==◌}
use Rattle.bench_base.specs.declared.events.Event.TheVariants as ev
use Rattle.bench_base.specs.declared.events.Reply.{Reply}
use Rattle.bench_base.specs.Questions.{IsAccepted}
use Rattle.indicium.specs.declared.Mark.{Mark}
use Rattle.line_extensions.specs.declared.{extension.Next.Next, extension.Next.TheVariants.Step, extension.Next.TheVariants.Say}
use Rattle.spoil_claims.specs.Claims.{Claims, kept, last_claim, credits, mark_of, scan_number}
use Rattle.spoil_claims.specs.declared.{claim.ClaimLine.ClaimLine, claim.ClaimLine.TheVariants.Claim, claim.ClaimLine.TheVariants.Credits, claim.ClaimLine.TheVariants.Reserved, claim.ClaimRow.ClaimRow, answer.Answer.Answer}
use Rattle.spoil_claims.specs.declared.answer.Answer.TheVariants as answers

abbrev pub row_for : ℕ → ℕ → List ℕ → ClaimRow
row_for c w mark = record { claim = c; customer = w; credited = false; mark = mark }

abbrev pub as_credited : ClaimRow → ClaimRow
as_credited x = record x { credited = true }

-- the scan that uses up the piece of a claim
abbrev pub scan_of : ClaimRow → Next
scan_of x = Step (ev.ScanHex (scan_number x.claim) x.mark)

-- the one or the other
abbrev pub Either : Bool → Type 0 → Type 0 → Type 0
Either true one other = one
Either false one other = other

-- the claim is kept for the same customer and mark
abbrev pub IsSame : ℕ → List ℕ → ClaimRow → Type 0
IsSame w mark x = (x.customer ≡ w) × (x.mark ≡ mark)

-- what a desk is, as far as its decisions go
pub record Keeper (S : Type 0) : Type 1 where
  -- the claims that it keeps
  pub rows : S → Claims
  -- what it answered last, or waits for
  pub said : S → Answer
  -- nothing but its answer is another
  pub Rests : S → S → Type 0
  -- a commit of this claim was tried, which was meant to be answered so and to be followed by that
  pub Tries : ClaimRow → Answer → Next → S → Next → S → Type 0

module _ {S : Type 0} (f : Keeper S) where
  -- it answers so, and commits nothing
  pub record Says (answer : Answer) (old : S) (next : Next) (new : S) : Type 0 where
    pub ends : next ≡ Say
    pub answers : f.said new ≡ answer
    pub rests : f.Rests old new

  -- the claim, which is kept, is scanned
  pub record Scans (x : ClaimRow) (old : S) (next : Next) (new : S) : Type 0 where
    pub here : kept (f.rows old) x.claim ≡ Some x
    pub asks : next ≡ scan_of x
    pub waits : f.said new ≡ answers.Scanning x.claim
    pub rests : f.Rests old new

  -- the claim was credited before
  pub record Repeats (c : ℕ) (x : ClaimRow) (old : S) (next : Next) (new : S) : Type 0 where
    pub mark : Mark
    pub is : mark_of x.mark ≡ Some mark
    pub says : Says (answers.Credited c mark true) old next new

  -- a claim with a number that is kept
  abbrev pub Known : ℕ → ℕ → List ℕ → ClaimRow → S → Next → S → Type 0
  Known c w mark x old next new =
      (IsSame w mark x × Either x.credited (Repeats c x old next new) (Scans x old next new))
      ⊎ ((IsSame w mark x → ⊥) × Says answers.Conflict old next new)

  -- one with a number that is not kept
  abbrev pub Unknown : ℕ → ℕ → List ℕ → S → Next → S → Type 0
  Unknown c w mark old next new =
      Either (c == last_claim (f.rows old) + 1)
      (Either (c == 1025) (Says answers.Full old next new) (f.Tries (row_for c w mark) (answers.Scanning c) (scan_of (row_for c w mark)) old next new))
      (Says (answers.WrongClaim (last_claim (f.rows old))) old next new)

  abbrev pub ByKept : Option ClaimRow → ℕ → ℕ → List ℕ → S → Next → S → Type 0
  ByKept (Some x) c w mark old next new = Known c w mark x old next new
  ByKept None c w mark old next new = Unknown c w mark old next new

  -- == before the scan ==

  abbrev pub Begins : S → ClaimLine → Next → S → Type 0
  Begins old (Claim c w mark) next new = ByKept (kept (f.rows old) c) c w mark old next new
  Begins old (Credits w) next new = Says (answers.Credits w (credits w (f.rows old))) old next new
  Begins old Reserved next new = Says answers.Reserved old next new

  -- == after it ==

  -- the claim is committed as credited
  pub record Credited (x : ClaimRow) (old : S) (next : Next) (new : S) : Type 0 where
    pub mark : Mark
    pub is : mark_of x.mark ≡ Some mark
    pub tries : f.Tries (as_credited x) (answers.Credited x.claim mark false) Say old next new

  -- credited where the verifier accepted the piece, and only then; every other reply is its answer
  pub record Scanned (c : ℕ) (reply : Reply) (old : S) (next : Next) (new : S) : Type 0 where
    pub row : ClaimRow
    pub is : kept (f.rows old) c ≡ Some row
    pub number : row.claim ≡ c
    pub did : (IsAccepted reply × Credited row old next new) ⊎ ((IsAccepted reply → ⊥) × Says (answers.Scan reply) old next new)

  abbrev pub GoesOn : Answer → Reply → S → Next → S → Type 0
  GoesOn (answers.Scanning c) reply old next new = Scanned c reply old next new
  GoesOn _ reply old next new = (next ≡ Say) × (new ≡ old)
