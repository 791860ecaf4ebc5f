-- What a line about the manifest is answered, by the manifest and by the replies to its scans; and the manifest after it.
use Rattle.std.specs.Prelude.{◌≡◌, ◌⊎◌, ℕ, ◌+◌, List, [], ◌∷◌, length, Option, Some, None, codes, ◌==◌, ◌↔◌}
use Rattle.bench_base.specs.Questions.{IsAccepted}
use Rattle.line_extensions.specs.Trace.{StepRecord, Skipped, Did}
use Rattle.line_extensions.specs.SideTrace.{SideStep, Plain, Own, Broken}
use Rattle.mail_manifest.specs.Causes.{Either, Finds}
use Rattle.mail_manifest.specs.Courses.{scan_of}
use Rattle.mail_manifest.specs.Listings.{Listing, opened, with_mark, code_of, AllRead, postage_in_all}
use Rattle.mail_manifest.specs.ManifestLines.{IsManifestLine}
use Rattle.mail_manifest.specs.Texts.{said_texts, open_text, piece_text, code_text, yes_text, no_piece_text}
use Rattle.mail_manifest.specs.declared.{opening.ManifestLine.ManifestLine, opening.ManifestLine.TheVariants.Open, opening.ManifestLine.TheVariants.Piece, opening.ManifestLine.TheVariants.Code, opening.ManifestLine.TheVariants.Check, answer.Answer.Answer}

-- it was answered so without a scan, and the manifest is this one then
pub record IsTold (answer : List ℕ) (left : Option Listing) (steps : List StepRecord) (texts : List (List ℕ)) (after : Option Listing) : Type 0 where
  pub none : steps ≡ []
  pub texts_are : texts ≡ answer ∷ []
  pub leaves : after ≡ left

-- The pieces from this number on were scanned in order, each under its own number. The first that was not accepted ended it, with its text; if every
-- piece was accepted the manifest is good.
abbrev pub AreScanned : Listing → ℕ → List StepRecord → List (List ℕ) → Type 0
AreScanned m number [] texts = ⊥
AreScanned m number (d ∷ rest) texts =
    (d.event ≡ scan_of m number)
    × ((IsAccepted d.reply × Either (number == length m.marks) ((rest ≡ []) × (texts ≡ yes_text m.opening.count m.opening.total ∷ []))
    (AreScanned m (number + 1) rest texts))
    ⊎ ((IsAccepted d.reply → ⊥) × (rest ≡ []) × (texts ≡ no_piece_text number d.reply ∷ [])))

-- it was refused for the first cause that there is; otherwise its pieces were scanned
abbrev pub IsJudged : Listing → Option Answer → List StepRecord → List (List ℕ) → Type 0
IsJudged m (Some cause) steps texts = (steps ≡ []) × (texts ≡ said_texts cause)
IsJudged m None steps texts = AreScanned m 1 steps texts

-- each piece from this number on was scanned under its own number and accepted
abbrev pub AreAccepted : Listing → ℕ → List StepRecord → Type 0
AreAccepted m number [] = number ≡ length m.marks + 1
AreAccepted m number (d ∷ rest) = (d.event ≡ scan_of m number) × IsAccepted d.reply × AreAccepted m (number + 1) rest

-- the manifest is good: it is complete and has its code, each mark reads, the postage adds up to its total, and every piece on it was accepted
pub record IsGood (m : Listing) (code : List ℕ) (steps : List StepRecord) : Type 0 where
  pub complete : length m.marks ≡ m.opening.count
  pub coded : code ≡ code_of m
  pub read : AllRead m
  pub total : postage_in_all m ≡ m.opening.total
  pub accepted : AreAccepted m 1 steps

pub record IsChecked (m : Listing) (code : List ℕ) (steps : List StepRecord) (texts : List (List ℕ)) (after : Option Listing) : Type 0 where
  pub cause : Option Answer
  pub finds : Finds m code cause
  pub judged : IsJudged m cause steps texts
  pub good : (texts ≡ yes_text m.opening.count m.opening.total ∷ []) ↔ IsGood m code steps
  pub leaves : after ≡ Some m

abbrev pub IsAnsweredOn : Listing → ManifestLine → List StepRecord → List (List ℕ) → Option Listing → Type 0
IsAnsweredOn m (Open o) steps texts after = IsTold (open_text o.count) (Some (opened o)) steps texts after
IsAnsweredOn m (Piece mark) steps texts after =
    Either (length m.marks == m.opening.count) (IsTold (codes "refused manifest full") (Some m) steps texts after)
    (IsTold (piece_text (length m.marks + 1)) (Some (with_mark m mark)) steps texts after)
IsAnsweredOn m Code steps texts after = IsTold (code_text (code_of m)) (Some m) steps texts after
IsAnsweredOn m (Check code) steps texts after = IsChecked m code steps texts after

abbrev pub IsAnsweredBare : ManifestLine → List StepRecord → List (List ℕ) → Option Listing → Type 0
IsAnsweredBare (Open o) steps texts after = IsTold (open_text o.count) (Some (opened o)) steps texts after
IsAnsweredBare (Piece mark) steps texts after = IsTold (codes "refused manifest none") None steps texts after
IsAnsweredBare Code steps texts after = IsTold (codes "refused manifest none") None steps texts after
IsAnsweredBare (Check code) steps texts after = IsTold (codes "refused manifest none") None steps texts after

-- THE ANSWER OF AN OWN LINE
abbrev pub IsAnswered : Option Listing → ManifestLine → List StepRecord → List (List ℕ) → Option Listing → Type 0
IsAnswered (Some m) own steps texts after = IsAnsweredOn m own steps texts after
IsAnswered None own steps texts after = IsAnsweredBare own steps texts after

-- each line in turn; a line that is left to the bench is not about the manifest, and no line is broken off
abbrev pub AreAnswered : Option Listing → List (SideStep ManifestLine) → Option Listing → Type 0
AreAnswered m [] after = after ≡ m
AreAnswered m (Plain (Skipped line) ∷ rest) after = AreAnswered m rest after
AreAnswered m (Plain (Did line d) ∷ rest) after = ((own : ManifestLine) → IsManifestLine own line → ⊥) × AreAnswered m rest after
AreAnswered m (Own line own steps texts ∷ rest) after = (mid : Option Listing) × IsAnswered m own steps texts mid × AreAnswered mid rest after
AreAnswered m (Broken line own steps ∷ rest) after = ⊥
