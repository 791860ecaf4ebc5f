-- Cells without commits, and an index without blocks.
use Rattle.std.proofs.Common.{◌≡◌, ℕ, List, [], option_map, Option, None, sym, subst, arith}
use Rattle.bench_base.specs.declared.sizes.TheConstants.{FIRST_BLOCK}
use Rattle.nv_store.specs.Slot.{Held}
use Rattle.nv_store.specs.Store.{payload_of}
use Rattle.row_node.specs.Kept.{IsFilled}
use Rattle.verifier.specs.declared.index.Entry.{Entry}
use Rattle.verifier.specs.Payload.{IsPayloadOf, row_of as row_from}
use Rattle.verifier_node.specs.Payloads.{HoldRows}
use Rattle.verifier_node.specs.Boots.{AreJoined}
use Rattle.verifier_node.proofs.Booted.{start_indexed, joined}

module _ (held : ℕ → Option Held) (blank : (k : ℕ) → held k ≡ None) where
  pub none_hold : HoldRows held
  none_hold j lt = subst (λ (h : Option Held). IsFilled (IsPayloadOf j) (option_map (row_from j) (payload_of h)) h) (sym (blank j)) tt

  pub none_joined : (es : List Entry) → es ≡ [] → AreJoined held es
  none_joined es empty = joined held none_hold es FIRST_BLOCK (start_indexed held none_hold es empty) (omega arith) (λ k le lt. blank k)
