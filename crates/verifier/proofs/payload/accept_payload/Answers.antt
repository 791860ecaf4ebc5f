use Rattle.std.proofs.Common.{ap₂, ◌∙◌, refl, rules, ◌+◌, ◌*◌, set, ◌∷◌}
use Rattle.bench_base.specs.declared.sizes.TheConstants.{BLOCK_PIECES}
use Rattle.verifier.specs.Payload.{words, block_bytes}
use Rattle.verifier.proofs.Laid.{block_laid}
use Rattle.verifier.proofs.payload.accept_payload.Goals as goal

pub returns : goal.returns
unfolding block_bytes
returns c =
    block_laid BLOCK_PIECES c.payload_before-bytes.result c.put_u32.new.bytes c.put_u32-2.new.bytes c.put_u32-3.new.bytes c.get.result c.args.block c.args.place c.args.scan (8 + 4 * c.args.place) (search rules) (search rules) c.requires refl c.put_u32.ensures c.put_u32-2.ensures c.put_u32-3.ensures
    ∙ ap₂ (λ d l. words (d ∷ (c.args.block ∷ set l c.args.place c.args.scan))) c.get.ensures.value c.payload_before-bytes.ensures
