use Rattle.std.proofs.Common.{◌++◌, ℕ, List, ap, ◌∙◌}
use Rattle.spoil_claims.proofs.Payloads.{written}
use Rattle.spoil_claims.proofs.payload.ClaimRowsRows73.write.Goals as goal

pub returns-clause-reads : goal.returns-clause-reads
returns-clause-reads c = written c.args._cell c.args.kept.now c.requires.fits c.head_bytes.ensures.fits c.joined.result (c.joined.ensures ∙ ap (λ (h : List ℕ). h ++ c.args.kept.now.mark) c.head_bytes.ensures.value)

pub returns-clause-value : goal.returns-clause-value
returns-clause-value c = c.joined.ensures ∙ ap (λ (h : List ℕ). h ++ c.args.kept.now.mark) c.head_bytes.ensures.value
