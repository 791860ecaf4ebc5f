-- What holds where no row of the verifier's table refuses. Only here is a row taken by its place: others take what it says by its name.
use Rattle.std.proofs.Common.{◌≡◌, ℤ, pos, ◌+ℤ◌, Bool, false}
use lib.Signed.{lt_z}
use Rattle.bench_base.proofs.Rows.{AllFalse}
use Rattle.verifier.specs.Answers.{scan_rows}

-- a piece whose mark is of this day may be accepted today
pub record MayAccept (day today : ℤ) (full : Bool) : Type 0 where
  pub begun : lt_z today day ≡ false
  pub lasts : lt_z (day +ℤ pos 30) today ≡ false
  pub room : full ≡ false

pub may_accept : (day today : ℤ) (full : Bool) → AllFalse (scan_rows day today full) → MayAccept day today full
may_accept day today full rows = record { begun = rows.0; lasts = rows.1.0; room = rows.1.1.0 }
