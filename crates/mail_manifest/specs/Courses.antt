-- What the checker does for an own line: at first, and after each scan. Its moves are those of Moves, by its manifest and what it said.
use Rattle.std.specs.Prelude.{ℕ, List, Option}
use Rattle.bench_base.specs.declared.events.Reply.{Reply}
use Rattle.line_extensions.specs.declared.extension.Next.{Next}
use Rattle.mail_manifest.specs.Listings.{Listing}
use Rattle.mail_manifest.specs.Moves as moves
pub use Rattle.mail_manifest.specs.Moves.{scan_of, yes_of}
use Rattle.mail_manifest.specs.View.{listing_of, said_of}
use Rattle.mail_manifest.specs.declared.{checker.Checker.Checker, opening.ManifestLine.ManifestLine, answer.Answer.Answer}

-- it answers so, and the manifest is this one then
abbrev pub Answers : Answer → Option Listing → Next → Checker → Type 0
Answers answer after next new = moves.Answers listing_of said_of answer after next new

-- it asks for the scan of this piece
abbrev pub Scans : Listing → ℕ → Next → Checker → Type 0
Scans m number next new = moves.Scans listing_of said_of m number next new

-- so it does for the manifest that it has
abbrev pub Scanning : ℕ → Checker → Next → Checker → Type 0
Scanning number old next new = moves.Scanning listing_of said_of number old next new

-- == at first ==

abbrev pub Adds : Listing → List ℕ → Next → Checker → Type 0
Adds m mark next new = moves.Adds listing_of said_of m mark next new

-- refused for the first cause that there is; otherwise its pieces are scanned
abbrev pub ByCause : Listing → Option Answer → Next → Checker → Type 0
ByCause m cause next new = moves.ByCause listing_of said_of m cause next new

abbrev pub Checks : Listing → List ℕ → Next → Checker → Type 0
Checks m code next new = moves.Checks listing_of said_of m code next new

-- a line about the manifest that was opened
abbrev pub BeginsOn : Listing → ManifestLine → Next → Checker → Type 0
BeginsOn m own next new = moves.BeginsOn listing_of said_of m own next new

-- a line where none was opened
abbrev pub BeginsBare : ManifestLine → Next → Checker → Type 0
BeginsBare own next new = moves.BeginsBare listing_of said_of own next new

abbrev pub BeginsWith : Option Listing → ManifestLine → Next → Checker → Type 0
BeginsWith m own next new = moves.BeginsWith listing_of said_of m own next new

abbrev pub Begins : Checker → ManifestLine → Next → Checker → Type 0
Begins old own next new = moves.Begins listing_of said_of old own next new

-- == after a scan ==

-- if this piece was accepted the next one is scanned; after the last one the manifest is good
abbrev pub GoesBy : Listing → ℕ → Reply → Next → Checker → Type 0
GoesBy m number reply next new = moves.GoesBy listing_of said_of m number reply next new

abbrev pub Scanned : ℕ → Reply → Checker → Next → Checker → Type 0
Scanned number reply old next new = moves.Scanned listing_of said_of number reply old next new

abbrev pub GoesOn : Answer → Reply → Checker → Next → Checker → Type 0
GoesOn answer reply old next new = moves.GoesOn listing_of said_of answer reply old next new
