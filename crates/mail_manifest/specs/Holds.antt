-- What is promised of a manifest with a check that was answered yes, by a ledger.
use Rattle.std.specs.Prelude.{◌≡◌, ◌<◌, ℕ, ◌+◌, List, [], ◌∷◌, ◌++◌, length, Some, None, Result, Ok, Err, sum_by, unwrap_or, Contains}
use Rattle.bench_base.specs.declared.{ledger.Commit.Commit, ledger.Commit.TheVariants.Accepted, refusals.MarkFault.MarkFault}
use Rattle.bench_base.specs.Ledger.{Ledger, IsReleased, counted}
use Rattle.line_extensions.specs.Trace.{StepRecord}
use Rattle.line_extensions.specs.SideTrace.{SideStep, Own}
use Rattle.indicium.specs.declared.Mark.{Mark}
use Rattle.indicium.specs.Marks.{read_mark}
use Rattle.ledger_terms.specs.Further.{postage_of}
use Rattle.scan_laws.specs.Acceptances.{IsOfPiece}
use Rattle.mail_manifest.specs.Answers.{AreAnswered}
use Rattle.mail_manifest.specs.Listings.{Listing, mark_at}
use Rattle.mail_manifest.specs.Texts.{yes_text}
use Rattle.mail_manifest.specs.declared.{opening.ManifestLine.ManifestLine, opening.ManifestLine.TheVariants.Check}

-- the bytes are a released mark, its piece is accepted under this number and no other, and it shows the postage of its debit
pub record IsMail (number : ℕ) (bytes : List ℕ) (H : Ledger) : Type 0 where
  pub mark : Mark
  pub code : List ℕ
  pub reads : read_mark bytes ≡ Ok (mark, code)
  pub released : IsReleased bytes H
  pub accepted : Contains (counted H) (Accepted mark.device mark.piece number)
  pub no_other : (n : ℕ) → Contains (counted H) (Accepted mark.device mark.piece n) → n ≡ number
  pub debited : postage_of mark.device mark.piece (counted H) ≡ Some mark.postage

-- the postage of the debit of the piece that the mark is read as
abbrev pub debit_in : List Commit → Result (Mark × List ℕ) MarkFault → ℕ
debit_in C (Ok m) = unwrap_or (postage_of m.0.device m.0.piece C) 0
debit_in C (Err fault) = 0

-- the postage of the debits of all pieces
abbrev pub debited_in_all : Listing → List Commit → ℕ
debited_in_all m C = sum_by (λ bytes. debit_in C (read_mark bytes)) m.marks

-- WHAT IS PROMISED: there are as many pieces as were declared; each is mail under its own number, from the first one on; they differ; and the total
-- is what was debited for them
pub record ManifestHolds (m : Listing) (H : Ledger) : Type 0 where
  pub complete : length m.marks ≡ m.opening.count
  pub mail : (at : ℕ) → at < length m.marks → IsMail (m.opening.first + at) (mark_at m at) H
  pub differ : (d p i j : ℕ) → i < length m.marks → j < length m.marks → IsOfPiece d p (mark_at m i) → IsOfPiece d p (mark_at m j) → i ≡ j
  pub total : m.opening.total ≡ debited_in_all m (counted H)

-- the answer is yes, with any count and total
abbrev pub IsYes : List (List ℕ) → Type 0
IsYes texts = (count total : ℕ) × (texts ≡ yes_text count total ∷ [])

-- after these lines there was a manifest with the numbers of the answer, and it holds by the ledger
pub record IsGoodBehind (before : List (SideStep ManifestLine)) (texts : List (List ℕ)) (H : Ledger) : Type 0 where
  pub listing : Listing
  pub here : AreAnswered None before (Some listing)
  pub tells : texts ≡ yes_text listing.opening.count listing.opening.total ∷ []
  pub holds : ManifestHolds listing H

-- so it is at each check of the steps that was answered yes
abbrev pub YesHolds : List (SideStep ManifestLine) → Ledger → Type 0
YesHolds trace H = (before behind : List (SideStep ManifestLine)) (line code : List ℕ) (steps : List StepRecord) (texts : List (List ℕ))
    → trace ≡ before ++ Own line (Check code) steps texts ∷ behind → IsYes texts → IsGoodBehind before texts H
