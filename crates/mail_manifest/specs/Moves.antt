-- What is done for a line about the manifest, at first and after each scan, by whoever keeps a manifest and says something.
use Rattle.std.specs.Prelude.{◌≡◌, ◌⊎◌, ℕ, ◌+◌, ◌-◌, List, length, Option, Some, None, ◌==◌}
use Rattle.bench_base.specs.declared.{events.Event.Event, events.Reply.Reply}
use Rattle.bench_base.specs.declared.events.Event.TheVariants as ev
use Rattle.bench_base.specs.Questions.{IsAccepted}
use Rattle.line_extensions.specs.declared.{extension.Next.Next, extension.Next.TheVariants.Step, extension.Next.TheVariants.Say}
use Rattle.mail_manifest.specs.Causes.{Either, Finds}
use Rattle.mail_manifest.specs.Listings.{Listing, opened, with_mark, mark_at, code_of}
use Rattle.mail_manifest.specs.declared.{opening.ManifestLine.ManifestLine, opening.ManifestLine.TheVariants.Open, opening.ManifestLine.TheVariants.Piece, opening.ManifestLine.TheVariants.Code, opening.ManifestLine.TheVariants.Check, answer.Answer.Answer}
use Rattle.mail_manifest.specs.declared.answer.Answer.TheVariants as answers

-- the scan of the piece of this number, counted from 1: of its mark, under the manifest's first number and those that follow it
abbrev pub scan_of : Listing → ℕ → Event
scan_of m number = ev.ScanHex (m.opening.first + (number - 1)) (mark_at m (number - 1))

abbrev pub yes_of : Listing → Answer
yes_of m = answers.Yes m.opening.count m.opening.total

-- S keeps the manifest that was opened last, if one was, and has said something last.
module _ {S : Type 0} (kept : S → Option Listing) (said : S → Answer) where
  -- it answers so, and the manifest is this one then
  pub record Answers (answer : Answer) (after : Option Listing) (next : Next) (new : S) : Type 0 where
    pub ends : next ≡ Say
    pub answers : said new ≡ answer
    pub leaves : kept new ≡ after

  -- it asks for the scan of this piece
  pub record Scans (m : Listing) (number : ℕ) (next : Next) (new : S) : Type 0 where
    pub asks : next ≡ Step (scan_of m number)
    pub waits : said new ≡ answers.Scanning number
    pub leaves : kept new ≡ Some m

  -- so it does for the manifest that it has
  pub record Scanning (number : ℕ) (old : S) (next : Next) (new : S) : Type 0 where
    pub listing : Listing
    pub here : kept old ≡ Some listing
    pub scans : Scans listing number next new

  -- == at first ==

  abbrev pub Adds : Listing → List ℕ → Next → S → Type 0
  Adds m mark next new =
      Either (length m.marks == m.opening.count) (Answers answers.Full (Some m) next new)
      (Answers (answers.Piece (length m.marks + 1)) (Some (with_mark m mark)) next new)

  -- refused for the first cause that there is; otherwise its pieces are scanned
  abbrev pub ByCause : Listing → Option Answer → Next → S → Type 0
  ByCause m (Some cause) next new = Answers cause (Some m) next new
  ByCause m None next new = Scans m 1 next new

  pub record Checks (m : Listing) (code : List ℕ) (next : Next) (new : S) : Type 0 where
    pub cause : Option Answer
    pub finds : Finds m code cause
    pub does : ByCause m cause next new

  -- a line about the manifest that was opened
  abbrev pub BeginsOn : Listing → ManifestLine → Next → S → Type 0
  BeginsOn m (Open o) next new = Answers (answers.Opened o.count) (Some (opened o)) next new
  BeginsOn m (Piece mark) next new = Adds m mark next new
  BeginsOn m Code next new = Answers (answers.Code (code_of m)) (Some m) next new
  BeginsOn m (Check code) next new = Checks m code next new

  -- a line where none was opened
  abbrev pub BeginsBare : ManifestLine → Next → S → Type 0
  BeginsBare (Open o) next new = Answers (answers.Opened o.count) (Some (opened o)) next new
  BeginsBare (Piece mark) next new = Answers answers.NoManifest None next new
  BeginsBare Code next new = Answers answers.NoManifest None next new
  BeginsBare (Check code) next new = Answers answers.NoManifest None next new

  abbrev pub BeginsWith : Option Listing → ManifestLine → Next → S → Type 0
  BeginsWith (Some m) own next new = BeginsOn m own next new
  BeginsWith None own next new = BeginsBare own next new

  abbrev pub Begins : S → ManifestLine → Next → S → Type 0
  Begins old own next new = BeginsWith (kept old) own next new

  -- == after a scan ==

  -- if this piece was accepted the next one is scanned; after the last one the manifest is good
  abbrev pub GoesBy : Listing → ℕ → Reply → Next → S → Type 0
  GoesBy m number reply next new =
      (IsAccepted reply × Either (number == length m.marks) (Answers (yes_of m) (Some m) next new) (Scans m (number + 1) next new))
      ⊎ ((IsAccepted reply → ⊥) × Answers (answers.NoPiece number reply) (Some m) next new)

  pub record Scanned (number : ℕ) (reply : Reply) (old : S) (next : Next) (new : S) : Type 0 where
    pub listing : Listing
    pub here : kept old ≡ Some listing
    pub goes : GoesBy listing number reply next new

  abbrev pub GoesOn : Answer → Reply → S → Next → S → Type 0
  GoesOn (answers.Scanning number) reply old next new = Scanned number reply old next new
  GoesOn _ reply old next new = (next ≡ Say) × (new ≡ old)
