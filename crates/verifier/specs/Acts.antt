-- What each call of the verifier does, by what it looks up: in its rows, or in a list of commits. Days are since 1970-01-01.
use Rattle.std.specs.Prelude.{ℕ, ℤ, ◌%◌, Bool, true, false, List, Option, Some, None, Result, Ok, Err, is_some, nat_le, if◌then◌else◌}
use Rattle.bench_base.specs.declared.{sizes.TheConstants.VERIFIER_CELLS, sizes.TheConstants.BLOCK_PIECES, refusals.MarkFault.MarkFault, refusals.ScanRefusal.ScanRefusal}
use Rattle.bench_base.specs.declared.refusals.ScanRefusal.TheVariants as no
use Rattle.bench_base.specs.declared.ledger.Commit.TheVariants as c
use Rattle.bench_base.specs.Scans.{block_of}
use Rattle.node_acts.specs.declared.{act.Act.Act, act.Act.TheVariants.Refuse, act.Act.TheVariants.Tell, act.Act.TheVariants.Commits}
use Rattle.indicium.specs.declared.Mark.{Mark}
use Rattle.indicium.specs.Marks.{read_mark}
use Rattle.psd_wire.specs.Codes.{has_code}
use Rattle.verifier.specs.declared.{acts.Accepted.Accepted, acts.Change.Change, acts.Spot.Spot}
use Rattle.verifier.specs.declared.acts.Change.TheVariants as change
use Rattle.verifier.specs.Answers.{scan_answer}
use Rattle.verifier.specs.Seen.{Seen, key_at, spot_in}

-- what a call of the verifier does
abbrev pub ScanAct : Type 0 → Type 0
ScanAct A = Act Change ScanRefusal A

-- the key under which marks of a device are trusted, and where a piece of it is looked up
pub record LookUps : Type 0 where
  pub key : ℕ → Option (List ℕ)
  pub spot : ℕ → ℕ → Spot

abbrev pub in_rows : Seen → LookUps
in_rows s = record { key = λ d. key_at s d; spot = λ d piece. spot_in s d piece }

-- == trust ==

-- by whether the device is trusted
abbrev pub trusted_act : ℕ → List ℕ → Bool → ScanAct (Unit {0})
trusted_act d key true = Refuse no.Known
trusted_act d key false = Commits (c.Trusted d key) (change.Trust d key) tt

-- a key is trusted for the device, by what is looked up
abbrev pub trust_by : ℕ → List ℕ → LookUps → ScanAct (Unit {0})
trust_by d key at = trusted_act d key (is_some (at.key d))

abbrev pub trust_act : ℕ → List ℕ → Seen → ScanAct (Unit {0})
trust_act d key s = trust_by d key (in_rows s)

-- == a scan ==

-- what is answered of an accepted mark
abbrev pub told : Mark → Bool → Accepted
told k again = record { device = k.device; piece = k.piece; again = again }

-- the piece was accepted before under the same scan number n, or it is to be accepted in this cell
abbrev pub answered_act : ℕ → Mark → ℕ → Result Bool ScanRefusal → ScanAct Accepted
answered_act n k cell (Err x) = Refuse x
answered_act n k cell (Ok true) = Tell (told k true)
answered_act n k cell (Ok false) = Commits (c.Accepted k.device k.piece n) (change.Accept cell k.device (block_of k.piece) (k.piece % BLOCK_PIECES) n)
    (told k false)

-- where the next cell lies beyond the last, all blocks are in use
abbrev pub spot_act : ℕ → Mark → ℤ → Spot → ScanAct Accepted
spot_act n k today spot = answered_act n k spot.cell (scan_answer n k.day today (nat_le VERIFIER_CELLS spot.cell) spot.accepted)

-- a mark in these bytes, by the key of its device and where its piece is looked up
abbrev pub marked_act : ℕ → List ℕ → Mark → ℤ → Option (List ℕ) → Spot → ScanAct Accepted
marked_act n bytes k today None spot = Refuse (no.Unknown k.device)
marked_act n bytes k today (Some key) spot = if has_code key bytes then spot_act n k today spot else Refuse no.BadCode

-- the act of a scan, by what its bytes read as
abbrev pub read_act : ℕ → List ℕ → ℤ → LookUps → Result (Mark × List ℕ) MarkFault → ScanAct Accepted
read_act n bytes today at (Err fault) = Refuse (no.Unread fault)
read_act n bytes today at (Ok k) = marked_act n bytes k.0 today (at.key k.0.device) (at.spot k.0.device k.0.piece)

-- bytes that are scanned under a number
abbrev pub scan_by : ℕ → List ℕ → ℤ → LookUps → ScanAct Accepted
scan_by n bytes today at = read_act n bytes today at (read_mark bytes)

abbrev pub scan_act : ℕ → List ℕ → ℤ → Seen → ScanAct Accepted
scan_act n bytes today s = scan_by n bytes today (in_rows s)
