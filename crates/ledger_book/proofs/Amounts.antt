-- The amount of a Request that was read fits 64 bits.
use Rattle.std.proofs.Common.{◌≡◌, ℕ, ◌<◌, ◌^◌, ◌==◌, Bool, true, false, cond, arith, List, Ok}
use Rattle.bench_base.specs.Table.{Four, Eight, IsNumber, IsBytes}
use Rattle.psd_wire.specs.declared.message.Request.{Request}
use Rattle.psd_wire.specs.declared.message.Message.TheVariants as m
use Rattle.psd_wire.specs.Grammar.{read, IsWhole}
use Rattle.psd_wire.proofs.Readings.{read_found}

whole_amount : (q : Request) → IsWhole (m.Request q) → q.amount < 2 ^ 64
whole_amount q h = go (q.version == 1) h.1.1.1.1.1.1.1.0
  where
    go : (b : Bool) → IsNumber (cond b Four Eight) q.amount → q.amount < 2 ^ 64
    go true k = omega (arith, k)
    go false k = k

pub read_amount : (bytes : List ℕ) (q : Request) → IsBytes bytes → read bytes ≡ Ok (m.Request q) → q.amount < 2 ^ 64
read_amount bytes q h e = let found = read_found bytes (m.Request q) h e in whole_amount q found.1.whole
