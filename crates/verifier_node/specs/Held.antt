-- What is seen of cells that hold rows.
use Rattle.std.proofs.Common.{◌≡◌, inl, inr, ℕ, ◌<◌, length, Option, Some, None, IfSome, sym, subst, arith}
use Rattle.std.proofs.lemmas.Bool.{cases_lt}
use Rattle.std.proofs.lemmas.List.{get_or_past}
use Rattle.bench_base.specs.declared.sizes.TheConstants.{VERIFIER_CELLS}
use Rattle.node_acts.specs.RowList.{row_of}
use Rattle.nv_store.specs.Slot.{Held}
use Rattle.row_node.specs.Kept.{IsFilled, seen_long, seen_row}
use Rattle.verifier.specs.Payload.{IsPayloadOf}
use Rattle.verifier.specs.Rows.{Row}
use Rattle.verifier.specs.Seen.{AreTogether, AreSound, IsRowAt, row_in}
use Rattle.verifier_node.specs.Payloads.{rows_held, seen_held, HoldRows}

pub held_long : (held : ℕ → Option Held) → length (seen_held held) ≡ VERIFIER_CELLS
held_long held = seen_long VERIFIER_CELLS IsPayloadOf (rows_held held) held

pub held_row : (held : ℕ → Option Held) → HoldRows held → (k : ℕ) → k < VERIFIER_CELLS → row_in (seen_held held) k ≡ rows_held held k
held_row held filled k lt = seen_row VERIFIER_CELLS IsPayloadOf (rows_held held) held filled k lt

filled_row : (k : ℕ) (o : Option Row) (h : Option Held) → IsFilled (IsPayloadOf k) o h → IfSome o (IsRowAt k)
filled_row k None h filled = tt
filled_row k (Some x) None filled = absurd filled
filled_row k (Some x) (Some h) filled = record { place = filled.place; sound = filled.row.sound }

pub held_each : (held : ℕ → Option Held) → HoldRows held → (k : ℕ) → IfSome (row_in (seen_held held) k) (IsRowAt k)
held_each held filled k = elim (cases_lt k VERIFIER_CELLS) [
  | inl lt ↦ subst (λ (o : Option Row). IfSome o (IsRowAt k)) (sym (held_row held filled k lt)) (filled_row k (rows_held held k) (held k) (filled k lt))
  | inr past ↦ subst (λ (o : Option (ℕ × Row)). IfSome (row_of o) (IsRowAt k))
      (sym (get_or_past (seen_held held) k None (omega (arith, past, held_long held)))) tt
]

-- they are sound where they meet the conditions that join them
pub held_sound : (held : ℕ → Option Held) → HoldRows held → AreTogether (seen_held held) → AreSound (seen_held held)
held_sound held filled together = record { long = held_long held; each = held_each held filled; together = together }
