-- The record of a device after a list of commits, the newest first, and the order of its commits.
use Rattle.std.specs.Prelude.{◌≡◌, ℕ, pos, ◌+◌, ◌<◌, List, [], ◌∷◌, Option, Some, None, IsSome, ◌==◌, if◌then◌else◌}
use Rattle.bench_base.specs.declared.{words.Verdict.Verdict, ledger.Commit.Commit, ledger.Commit.TheVariants.Made, ledger.Commit.TheVariants.Asked, ledger.Commit.TheVariants.Applied, ledger.Commit.TheVariants.Debited, ledger.Commit.TheVariants.Registered, ledger.Commit.TheVariants.Ruled}
use Rattle.psd_wire.specs.declared.message.Request.{Request}
use Rattle.psd_wire.specs.declared.message.Message.TheVariants as m
use Rattle.psd_wire.specs.Grammar.{spell}
use Rattle.ledger_terms.specs.Requests.{request_in, note_of}
use Rattle.ledger_terms.specs.Sums.{ascending, descending, refunded, pieces, whole_descending}
use Rattle.ledger_terms.specs.Devices.{key_of, asked, number, applied_of, pending, waiting, phase, deadline, last_day, customer, origin}
use Rattle.ledger_terms.specs.Centres.{registered, ruled}
use Rattle.ledger_terms.specs.Franking.{kept}
use Rattle.ledger_terms.specs.InFlight.{ruling_of}
use Rattle.ledger_terms.specs.Rulings.{verdict}
use Rattle.psd_state.specs.State.{State}

-- what follows from the commits for a device with this key
abbrev pub state_of : ℕ → List ℕ → List Commit → State
state_of d key C = record {
  device = d;
  phase = phase d C;
  key = key;
  registers = record { ascending = ascending d C; descending = descending d C; refunded = refunded d C; pieces = pieces d C };
  number = number d C;
  deadline = deadline d C;
  last_day = last_day d C;
  customer = customer d C;
  origin = origin d C;
  pending = waiting (pending d C);
  mark = kept d C;
}

-- what is outstanding is what was asked last: its number, and its spelling under the key
abbrev pub IsOutstanding : List ℕ → Option Request → Option (ℕ × List ℕ) → Type 0
IsOutstanding key None asked = asked ≡ None
IsOutstanding key (Some q) asked = asked ≡ Some (q.number, spell (m.Request q) key)

-- this is the record of device d after these commits
pub record IsRecordOf (s : State) (d : ℕ) (C : List Commit) : Type 0 where
  pub made : key_of d C ≡ Some s.key
  pub state : s ≡ state_of d s.key C
  -- as whole numbers: no more was spent and given back than loaded
  pub descending : pos s.registers.descending ≡ whole_descending d C
  pub outstanding : IsOutstanding s.key s.pending (pending d C)

-- == the order of a device's commits ==

-- how many transactions the device asked for
abbrev pub asks : ℕ → List Commit → ℕ
asks d [] = 0
asks d (Asked e n note ∷ C) = if e == d then asks d C + 1 else asks d C
asks d (_ ∷ C) = asks d C

-- request n of the device was ruled so: the Ruled of that number has the note of the Asked of that number
pub record IsRuled (d n : ℕ) (v : Verdict) (C : List Commit) : Type 0 where
  pub note : List ℕ
  pub ruling : ruling_of d n C ≡ Some (v, note)
  pub request : note_of d n C ≡ Some note

-- The commit may come after these, as far as the order of one device goes, on its own side and on the centre's. Made and
-- Registered come once, and before the others of their side. The k-th Asked has number k. An Applied has the number of the
-- last Asked, and comes once for it. It comes after the Ruled of that number, which has the Request that was asked, with
-- its verdict. A Ruled has a greater number than those before it, and the verdict that follows from the commits before it.
abbrev pub Follows : ℕ → Commit → List Commit → Type 0
Follows d (Made e key) C = e ≡ d → key_of d C ≡ None
Follows d (Asked e n note) C = e ≡ d → IsSome (key_of d C) × (n ≡ asks d C + 1)
Follows d (Applied e n v) C = e ≡ d → IsSome (key_of d C) × (n ≡ asked d C) × (applied_of d n C ≡ None) × IsRuled d n v C
Follows d (Debited e piece postage class day version) C = e ≡ d → IsSome (key_of d C)
Follows d (Registered e origin key) C = e ≡ d → registered d C ≡ None
Follows d (Ruled e n v note) C = e ≡ d → IsSome (registered d C) × (ruled d C < n) × (v ≡ (verdict C (request_in note)).0)
Follows d _ C = Unit {0}

-- each commit comes after those before it in the order of the device
abbrev pub InOrder : ℕ → List Commit → Type 0
InOrder d [] = Unit {0}
InOrder d (c ∷ C) = Follows d c C × InOrder d C
