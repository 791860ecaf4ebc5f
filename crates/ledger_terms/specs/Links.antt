-- How far a device and the centre may be apart.
use Rattle.std.specs.Prelude.{◌≡◌, ℕ, ◌+◌, ◌≤◌, List, Option}
use Rattle.bench_base.specs.declared.ledger.Commit.{Commit}
use Rattle.ledger_terms.specs.Requests.{note_of}
use Rattle.ledger_terms.specs.Devices.{asked, number}
use Rattle.ledger_terms.specs.Centres.{ruled, settled, stored_request}

-- the device's last number is settled, or the one after; it was ruled; the centre is at most one ruling ahead; and the device asked for that
pub record Linked (settled number ruled asked : ℕ) (stored note : Option (List ℕ)) : Type 0 where
  pub settled_le : settled ≤ number
  pub number_le : number ≤ ruled
  pub ruled_le : ruled ≤ settled + 1
  pub asked_ge : ruled ≤ asked
  pub asked_le : asked ≤ number + 1
  -- the stored Request is the one that was asked
  pub same : 1 ≤ ruled → ruled ≡ asked → stored ≡ note

abbrev pub Link : List Commit → ℕ → Type 0
Link C d = Linked (settled d C) (number d C) (ruled d C) (asked d C) (stored_request d C) (note_of d (ruled d C) C)
