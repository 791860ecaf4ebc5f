use Rattle.std.proofs.Common.{ℕ, ◌+◌, ◌<◌}
use Rattle.std.specs.Prelude.{IsSome}
use Rattle.nv_store.specs.RoomView.{kept_in}
use Rattle.nv_store.specs.Store.{payload_of}
use Rattle.spoil_claims.proofs.payload.ClaimRowsRows73.agree.Given as goal

abbrev pub invariant-loop-cell : goal.invariant-loop-cell
invariant-loop-cell l = record { packed : (k : ℕ) → k + 1 < l.cell → IsSome (payload_of (kept_in l.room (k + 1))) → IsSome (payload_of (kept_in l.room k)) }
