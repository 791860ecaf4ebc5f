-- What a mount of a ring found.
use Rattle.std.specs.Prelude.{◌≡◌, ℕ, None, Some, Result, IfOk, replicate}
use Rattle.nv_model.specs.declared.nv.Nv.{Ghosts}
use Rattle.nv_store.specs.Slot.{Held, slots_at}
use Rattle.nv_store.specs.Cells.{Top}
use Rattle.nv_store.specs.Store.{count_of}
use Rattle.nv_store.specs.Mounts.{MountsOne}
use Rattle.nv_store.specs.declared.causes.MountCause.{MountCause}
use Rattle.nv_ring.specs.RingView.{storage_of, held_by, has_failed, first_of, start_of, fills_in}
use Rattle.nv_ring.specs.declared.ring.Ring.{Ring}

-- what its cell shows, and its wear, which is counted from here on
pub record MountsRing {N : Type 0} {L : ℕ} {g : Ghosts N} (nv : N) (result : Result (Ring N L g) (N × MountCause)) : Type 0 where
  pub cell : MountsOne g L 16 storage_of held_by has_failed nv result
  pub first : IfOk result (λ ring. first_of ring ≡ count_of (held_by ring))
  pub fills : IfOk result (λ ring. fills_in ring ≡ replicate 16 0)
  pub blank : IfOk result (λ ring. held_by ring ≡ None → start_of ring ≡ 15)
  pub start : g.tells → IfOk result (λ ring. (held : Held) → held_by ring ≡ Some held
      → Top 16 (slots_at L 0 (g.content (storage_of ring))) (start_of ring) held)
