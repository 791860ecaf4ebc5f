-- What an own line is answered, by the claims that are kept and by the reply to its scan; and the claims after it.
use Rattle.std.specs.Prelude.{◌≡◌, ◌⊎◌, ℕ, ◌+◌, ◌-◌, List, [], ◌∷◌, true, false, Option, Some, None, codes, ◌==◌}
use Rattle.bench_base.specs.declared.events.Event.TheVariants as ev
use Rattle.bench_base.specs.Questions.{IsAccepted}
use Rattle.indicium.specs.declared.Mark.{Mark}
use Rattle.node_acts.specs.RowList.{is_worn, put}
use Rattle.script_text.specs.Texts.{text_of}
use Rattle.line_extensions.specs.Trace.{StepRecord, Skipped, Did}
use Rattle.line_extensions.specs.SideTrace.{SideStep, Plain, Own, Broken}
use Rattle.spoil_claims.specs.ClaimLines.{IsClaimLine}
use Rattle.spoil_claims.specs.Claims.{Claims, IsHere, kept, scan_number, last_claim, mark_of, credits}
use Rattle.spoil_claims.specs.Courses.{Either, IsSame, row_for, as_credited}
use Rattle.spoil_claims.specs.Texts.{credited_text, credits_text, wrong_claim_text}
use Rattle.spoil_claims.specs.declared.{claim.ClaimRow.ClaimRow, claim.ClaimLine.ClaimLine, claim.ClaimLine.TheVariants.Claim, claim.ClaimLine.TheVariants.Credits, claim.ClaimLine.TheVariants.Reserved}

-- it was answered so, and nothing was done
pub record IsTold (answer : List ℕ) (rows : Claims) (steps : List StepRecord) (texts : List (List ℕ)) (after : Claims) : Type 0 where
  pub none : steps ≡ []
  pub texts_are : texts ≡ answer ∷ []
  pub rests : after ≡ rows

-- the credited claim is answered, with what its mark reads as
pub record IsCreditTold (c : ℕ) (x : ClaimRow) (texts : List (List ℕ)) : Type 0 where
  pub mark : Mark
  pub is : mark_of x.mark ≡ Some mark
  pub texts_are : texts ≡ credited_text c mark false ∷ []

-- after Accepted the claim is committed as credited, unless its cell is worn
abbrev pub IsCreditedNow : ClaimRow → Claims → List (List ℕ) → Claims → Type 0
IsCreditedNow x rows texts after =
    ((is_worn rows (x.claim - 1) ≡ true) × (texts ≡ codes "worn desk" ∷ []) × (after ≡ rows))
    ⊎ ((is_worn rows (x.claim - 1) ≡ false) × IsCreditTold x.claim x texts × (after ≡ put rows (x.claim - 1) (as_credited x)))

-- the open claim was scanned; every answer but Accepted is given as its text and leaves it open
pub record IsScanned (x : ClaimRow) (rows : Claims) (steps : List StepRecord) (texts : List (List ℕ)) (after : Claims) : Type 0 where
  pub claim : IsHere rows x
  pub scan : StepRecord
  pub only : steps ≡ scan ∷ []
  pub event : scan.event ≡ ev.ScanHex (scan_number x.claim) x.mark
  pub did : (IsAccepted scan.reply × IsCreditedNow x rows texts after)
      ⊎ ((IsAccepted scan.reply → ⊥) × (texts ≡ text_of scan.reply ∷ []) × (after ≡ rows))

-- the claim was credited before
pub record IsAgain (c : ℕ) (x : ClaimRow) (rows : Claims) (steps : List StepRecord) (texts : List (List ℕ)) (after : Claims) : Type 0 where
  pub mark : Mark
  pub is : mark_of x.mark ≡ Some mark
  pub told : IsTold (credited_text c mark true) rows steps texts after

abbrev pub IsKnownTold : ℕ → ℕ → List ℕ → ClaimRow → Claims → List StepRecord → List (List ℕ) → Claims → Type 0
IsKnownTold c w mark x rows steps texts after =
    (IsSame w mark x × Either x.credited (IsAgain c x rows steps texts after) (IsScanned x rows steps texts after))
    ⊎ ((IsSame w mark x → ⊥) × IsTold (codes "refused claim conflict") rows steps texts after)

-- an unknown claim is committed as open before it is scanned
abbrev pub IsNewTold : ℕ → ℕ → List ℕ → Claims → List StepRecord → List (List ℕ) → Claims → Type 0
IsNewTold c w mark rows steps texts after =
    ((is_worn rows (c - 1) ≡ true) × IsTold (codes "worn desk") rows steps texts after)
    ⊎ ((is_worn rows (c - 1) ≡ false) × IsScanned (row_for c w mark) (put rows (c - 1) (row_for c w mark)) steps texts after)

abbrev pub IsUnknownTold : ℕ → ℕ → List ℕ → Claims → List StepRecord → List (List ℕ) → Claims → Type 0
IsUnknownTold c w mark rows steps texts after =
    Either (c == last_claim rows + 1)
    (Either (c == 1025) (IsTold (codes "refused claim full") rows steps texts after) (IsNewTold c w mark rows steps texts after))
    (IsTold (wrong_claim_text (last_claim rows)) rows steps texts after)

abbrev pub IsClaimTold : Option ClaimRow → ℕ → ℕ → List ℕ → Claims → List StepRecord → List (List ℕ) → Claims → Type 0
IsClaimTold (Some x) c w mark rows steps texts after = IsKnownTold c w mark x rows steps texts after
IsClaimTold None c w mark rows steps texts after = IsUnknownTold c w mark rows steps texts after

-- THE ANSWER OF AN OWN LINE
abbrev pub IsAnswered : ClaimLine → Claims → List StepRecord → List (List ℕ) → Claims → Type 0
IsAnswered (Claim c w mark) rows steps texts after = IsClaimTold (kept rows c) c w mark rows steps texts after
IsAnswered (Credits w) rows steps texts after = IsTold (credits_text w (credits w rows)) rows steps texts after
IsAnswered Reserved rows steps texts after = IsTold (codes "refused claim reserved") rows steps texts after

-- == a line with a commit that failed ==

-- the open claim was scanned and the piece accepted, and its commit as credited failed
pub record IsCutCredit (x : ClaimRow) (rows : Claims) (steps : List StepRecord) : Type 0 where
  pub claim : IsHere rows x
  pub scan : StepRecord
  pub only : steps ≡ scan ∷ []
  pub event : scan.event ≡ ev.ScanHex (scan_number x.claim) x.mark
  pub accepted : IsAccepted scan.reply

-- of a new claim: nothing was committed and done, or it was committed as open
abbrev pub IsNewCut : ClaimRow → Claims → List StepRecord → Claims → Type 0
IsNewCut x rows steps after = ((steps ≡ []) × (after ≡ rows)) ⊎ (IsCutCredit x after steps × (after ≡ put rows (x.claim - 1) x))

abbrev pub IsClaimCut : Option ClaimRow → ℕ → ℕ → List ℕ → Claims → List StepRecord → Claims → Type 0
IsClaimCut (Some x) c w mark rows steps after = IsSame w mark x × Either x.credited ⊥ (IsCutCredit x rows steps × (after ≡ rows))
IsClaimCut None c w mark rows steps after = Either (c == last_claim rows + 1) (Either (c == 1025) ⊥ (IsNewCut (row_for c w mark) rows steps after)) ⊥

abbrev pub IsCutShort : ClaimLine → Claims → List StepRecord → Claims → Type 0
IsCutShort (Claim c w mark) rows steps after = IsClaimCut (kept rows c) c w mark rows steps after
IsCutShort (Credits w) rows steps after = ⊥
IsCutShort Reserved rows steps after = ⊥

-- each line in turn; a line that is left to the bench is no line of the desk
abbrev pub AreAnswered : Claims → List (SideStep ClaimLine) → Claims → Type 0
AreAnswered rows [] after = after ≡ rows
AreAnswered rows (Plain (Skipped line) ∷ rest) after = AreAnswered rows rest after
AreAnswered rows (Plain (Did line d) ∷ rest) after = ((own : ClaimLine) → IsClaimLine own line → ⊥) × AreAnswered rows rest after
AreAnswered rows (Own line own steps texts ∷ rest) after = (mid : Claims) × IsAnswered own rows steps texts mid × AreAnswered mid rest after
AreAnswered rows (Broken line own steps ∷ rest) after = (mid : Claims) × IsCutShort own rows steps mid × AreAnswered mid rest after
