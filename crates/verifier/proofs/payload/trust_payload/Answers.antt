use Rattle.std.proofs.Common.{ap₂, List, ℕ, ◌++◌, take}
use Rattle.std.proofs.lemmas.List.{drop-drop}
use Rattle.verifier.proofs.Laid.{trust_written}
use Rattle.verifier.proofs.payload.trust_payload.Goals as goal

pub returns : goal.returns
returns c =
    trust_written c.no_payload-bytes.result c.get.result c.args.device c.args.key.now c.put_u32.new.bytes _ c.no_payload-bytes.ensures c.get.ensures.value c.get.ensures.range.1 c.told-key c.fits-key c.put_u32.ensures
    (ap₂ (λ (l m : List ℕ). take 4 c.put_u32.new.bytes ++ (l ++ m)) c.copy_from_slice.ensures.after (drop-drop 32 4 c.put_u32.new.bytes))
