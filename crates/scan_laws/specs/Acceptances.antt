-- The acceptances of a ledger: those that count, and those of commits that are open.
use Rattle.std.specs.Prelude.{◌≡◌, ◌⊎◌, ℕ, List, Some, Ok, Contains}
use Rattle.bench_base.specs.declared.{words.Node.Node, ledger.Commit.TheVariants.Accepted, events.Event.Event}
use Rattle.bench_base.specs.declared.events.Event.TheVariants as ev
use Rattle.indicium.specs.declared.Mark.{Mark}
use Rattle.indicium.specs.Marks.{read_mark}
use Rattle.bench_base.specs.Ledger.{Ledger, IsReleased, torn_of, counted}
use Rattle.bench_base.specs.Scans.{accepted}
use Rattle.ledger_moves.specs.Histories.{IsKnownMark}

-- P of each acceptance, by device, piece and number of the scan: of those that count, and of one that is open, since it may count later
pub record EachAccepted (P : ℕ → ℕ → ℕ → Type 0) (H : Ledger) : Type 0 where
  pub counts : (d p n : ℕ) → Contains (counted H) (Accepted d p n) → P d p n
  pub torn : (m : Node) (d p n : ℕ) → torn_of m H ≡ Some (Accepted d p n) → P d p n

-- the ledger has this acceptance, counted or open
abbrev pub HasAccepted : Ledger → ℕ → ℕ → ℕ → Type 0
HasAccepted H d p n = Contains (counted H) (Accepted d p n) ⊎ ((m : Node) × (torn_of m H ≡ Some (Accepted d p n)))

-- the bytes read as a mark of this piece
pub record IsOfPiece (d p : ℕ) (bytes : List ℕ) : Type 0 where
  pub mark : Mark
  pub code : List ℕ
  pub reads : read_mark bytes ≡ Ok (mark, code)
  pub device : mark.device ≡ d
  pub piece : mark.piece ≡ p

-- the event is a scan under this number: of a message, or of bytes that are a mark of this piece
abbrev pub IsScanOf : ℕ → ℕ → ℕ → Event → Type 0
IsScanOf d p n e = ((k : ℕ) × (e ≡ ev.ScanMsg n k)) ⊎ ((bytes : List ℕ) × (e ≡ ev.ScanHex n bytes) × IsOfPiece d p bytes)

-- the bytes read as a mark, which was released if they are not forged; and its piece is accepted in the ledger K, under this number
pub record Accepts (n : ℕ) (bytes : List ℕ) (H K : Ledger) (d p m : ℕ) : Type 0 where
  pub mark : Mark
  pub code : List ℕ
  pub reads : read_mark bytes ≡ Ok (mark, code)
  pub device : mark.device ≡ d
  pub piece : mark.piece ≡ p
  pub number : m ≡ n
  pub released : IsKnownMark bytes (read_mark bytes) H → IsReleased bytes H
  pub now : accepted mark.device mark.piece (counted K) ≡ Some n
