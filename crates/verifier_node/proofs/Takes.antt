-- What a change that was committed makes of the cells and of the index.
use Rattle.std.proofs.Common.{◌≡◌, ◌≢◌, ℕ, List, option_map, Option, Some, None, Bool, true, false, sym, ◌∙◌, ap, subst}
use Rattle.std.specs.Prelude.{IsSome, is_some, MatchBool}
use Rattle.bench_base.specs.declared.sizes.TheConstants.{VERIFIER_CELLS}
use Rattle.nv_store.specs.Slot.{Held}
use Rattle.nv_store.specs.Store.{payload_of}
use Rattle.node_acts.specs.RowList.{row_at}
use Rattle.row_node.specs.Kept.{seen_put}
use Rattle.row_node.specs.Tables.{Filled, Keeps}
use Rattle.row_node.specs.Laws.{IsNext, IsCommitted, Takes}
use Rattle.verifier.specs.declared.acts.Change.{Change}
use Rattle.verifier.specs.ActLaws.{IsFit}
use Rattle.verifier.specs.Index.{IsIndexOf}
use Rattle.verifier.specs.Payload.{IsPayloadOf, RowReadsAs, row_of}
use Rattle.verifier.specs.Rows.{Row}
use Rattle.verifier.specs.Seen.{Seen, AreSound, AreTogether, cell_of, row_with, counting}
use Rattle.verifier.proofs.Cells.{shown_none}
use Rattle.verifier.proofs.Laid.{payload_laws}
use Rattle.verifier_node.specs.Payloads.{rows_held, seen_held}
use Rattle.verifier_node.specs.Held.{held_sound}
use Rattle.verifier_node.specs.Indexes.{CanIndex, Indexes}
use Rattle.verifier_node.specs.Table.{verifier_table}
use Rattle.verifier_node.specs.declared.rows.VerifierRows.{VerifierRows}
use Rattle.verifier_node.proofs.Indexing.{own_place, can_index, index_after}
use Rattle.verifier_node.proofs.Reading.{seen_some}

-- the rows are sound, whether the node is on or off
pub rows_sound : (m : VerifierRows) (held : ℕ → Option Held) → Keeps verifier_table m held → AreSound (seen_held held)
rows_sound m held keeps = held_sound held keeps.filled keeps.follows.together

-- the payload of a change that may come next
pub payload_next : (m : VerifierRows) (held : ℕ → Option Held) (x : Change) (payload : List ℕ) → Filled verifier_table m held → AreTogether (seen_held held) → IsFit (seen_held held) x
    → RowReadsAs (row_with (seen_held held) x) payload → IsPayloadOf (cell_of x) (row_with (seen_held held) x) payload
payload_next m held x payload filled together fits reads = record { place = (own_place (seen_held held) (held_sound held filled together) x fits).place; row = reads }

module _ (m : VerifierRows) (held held' : ℕ → Option Held) (x : Change) (payload : List ℕ) (blank : Bool) (next : IsNext verifier_table m held x payload blank) where
  sound : AreSound (seen_held held)
  sound = rows_sound m held next.keeps

  -- whether the cell was blank
  blank_row : blank ≡ true → row_at (seen_held held) (cell_of x) ≡ None
  blank_row is =
      let none : held (cell_of x) ≡ None = subst (λ t. MatchBool t (held (cell_of x) ≡ None) (IsSome (held (cell_of x)))) is next.is_blank in
      shown_none (row_at (seen_held held) (cell_of x)) (seen_some held next.keeps.filled (cell_of x) next.has ∙ ap is_some none)

  some_row : blank ≡ false → IsSome (row_at (seen_held held) (cell_of x))
  some_row isnt =
      let some : IsSome (held (cell_of x)) = subst (λ t. MatchBool t (held (cell_of x) ≡ None) (IsSome (held (cell_of x)))) isnt next.is_blank in
      seen_some held next.keeps.filled (cell_of x) next.has ∙ some

  -- its block can be added to the index
  pub may_index : CanIndex blank m.index x
  may_index = can_index (seen_held held) m.index sound x next.fits next.keeps.follows.indexed blank blank_row

  pub takes : (m' : VerifierRows) → IsCommitted verifier_table m held held' x payload blank → Indexes blank m.index m'.index x → Takes verifier_table m m' held held' x
  takes m' done made = record {
    here = row_here;
    others = row_others;
    follows = record {
      together = subst (λ (s : Seen). AreTogether s) (sym seen_after) next.fits.sound.together;
      indexed =
          subst (λ (s : Seen). IsIndexOf m'.index s) (sym seen_after)
          (index_after (seen_held held) m.index m'.index sound x next.fits next.keeps.follows.indexed blank blank_row some_row made);
    };
  }
    where
      row_here : rows_held held' (cell_of x) ≡ Some (row_with (seen_held held) x)
      row_here =
          ap (λ (h : Option Held). option_map (row_of (cell_of x)) (payload_of h)) done.here
          ∙ ap (λ (r : Row). Some r) (payload_laws.one_row (cell_of x) (row_with (seen_held held) x) payload next.reads)

      row_others : (j : ℕ) → j ≢ cell_of x → rows_held held' j ≡ rows_held held j
      row_others j differs = ap (λ (h : Option Held). option_map (row_of j) (payload_of h)) (done.others j differs)

      seen_after : seen_held held' ≡ counting.after (seen_held held) x
      seen_after =
          seen_put VERIFIER_CELLS IsPayloadOf (rows_held held) held next.keeps.filled (cell_of x) next.has (row_with (seen_held held) x) payload next.reads
          (rows_held held') held' row_here row_others done.here done.others
