use Rattle.std.proofs.Common.{◌≡◌, ℕ, ◌<◌, List, length, get_or, bit_xor, arith, sym, ◌∙◌, rules}
use Rattle.std.proofs.lemmas.List.{ext_get_or, length-map, get_or-map}
use Rattle.hmac_core.specs.Hmac.{masked}
use Rattle.hmac_core.proofs.mask.Goals as goal

each_masked : (out block : List ℕ) (pad : ℕ) → length out ≡ length block
    → ((k : ℕ) → k < length block → get_or out k 0 ≡ bit_xor (get_or block k 0) pad) → out ≡ masked pad block
each_masked out block pad same each =
    ext_get_or 0 out (masked pad block) (same ∙ sym (length-map block (λ b. bit_xor b pad)))
    (λ i h. let inside : i < length block = omega (arith, same) in each i inside ∙ sym (get_or-map (λ b. bit_xor b pad) block i 0 0 inside))

pub returns : goal.returns
returns c = each_masked _ c.args.block.now c.args.pad (search rules) (λ k h. c.loop-i.invariant.1 k (search rules))
