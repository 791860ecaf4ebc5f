-- What a checker waits for.
use Rattle.std.specs.Prelude.{◌≡◌, ◌≤◌, ◌-◌, ℕ, length, Option, Some, None}
use Rattle.std.proofs.Props.{props}
use Rattle.mail_manifest.specs.Listings.{Listing}
use Rattle.mail_manifest.specs.declared.answer.Answer.{Answer}
use Rattle.mail_manifest.specs.declared.answer.Answer.TheVariants as answers

-- the piece of this number, counted from 1, is on a manifest that has all its pieces
abbrev pub IsListed : ℕ → Option Listing → Type 0
IsListed number None = ⊥
IsListed number (Some m) = (1 ≤ number) × (number ≤ length m.marks) × (length m.marks ≡ m.opening.count)

-- if the scan of a piece is awaited, the piece is on the manifest
abbrev pub IsWaiting : Option Listing → Answer → Type 0
IsWaiting m (answers.Scanning number) = IsListed number m
IsWaiting m _ = Unit {0}

-- how many pieces are still to be scanned after that one
abbrev pub pieces_left : Option Listing → Answer → ℕ
pieces_left (Some m) (answers.Scanning number) = length m.marks - number
pieces_left _ _ = 0

-- == laws ==

listed_prop : (number : ℕ) (m : Option Listing) → IsProp (IsListed number m)
listed_prop number None = hlevel props
listed_prop number (Some m) = hlevel props

-- that it is has one proof at most
pub waiting_prop : (m : Option Listing) (s : Answer) → IsProp (IsWaiting m s)
waiting_prop m answers.Nothing = hlevel props
waiting_prop m (answers.Scanning number) = listed_prop number m
waiting_prop m answers.NoManifest = hlevel props
waiting_prop m answers.Full = hlevel props
waiting_prop m (answers.Opened count) = hlevel props
waiting_prop m (answers.Piece number) = hlevel props
waiting_prop m (answers.Code code) = hlevel props
waiting_prop m (answers.Yes count total) = hlevel props
waiting_prop m (answers.NoCount count) = hlevel props
waiting_prop m answers.NoCode = hlevel props
waiting_prop m (answers.Unread number) = hlevel props
waiting_prop m (answers.NoTotal sum) = hlevel props
waiting_prop m (answers.NoPiece number reply) = hlevel props
