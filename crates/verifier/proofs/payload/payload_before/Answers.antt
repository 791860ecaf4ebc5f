use Rattle.std.proofs.Common.{refl, sym, ap, ◌∙◌, List, ℕ}
use Rattle.std.specs.Option.{option_copied}
use Rattle.bench_base.specs.declared.sizes.TheConstants.{BLOCK_BYTES, BLOCK_PIECES}
use Rattle.verifier.specs.Payload.{no_scans, scans_of, scans_before}
use Rattle.verifier.proofs.Laid.{zero_scans}
use Rattle.verifier.proofs.payload.payload_before.Goals as goal

pub returns-in-None : goal.returns-in-None
unfolding no_scans
returns-in-None c = ap (λ (l : List ℕ). scans_of l) c.no_payload.ensures ∙ zero_scans BLOCK_PIECES BLOCK_BYTES refl ∙ sym (ap (λ o. scans_before (option_copied o)) c.in-None.is)
