use Rattle.std.proofs.Common.{sym, subst}
use Rattle.centre_ledger.specs.Payload.{CustomerReadsAs}
use Rattle.centre_ledger.proofs.CustomerBytes.{customer_laid, written_customer}
use Rattle.centre_ledger.proofs.rows.CustomerRow.write_payload.Goals as goal

pub returns-clause-value : goal.returns-clause-value
returns-clause-value c = customer_laid c.args.self.now _ _ c.part_bytes.ensures.fits c.part_bytes.ensures.value c.put.ensures

pub returns-clause-reads : goal.returns-clause-reads
returns-clause-reads c =
    subst (λ b. CustomerReadsAs b c.args.self.now) (sym (customer_laid c.args.self.now _ _ c.part_bytes.ensures.fits c.part_bytes.ensures.value c.put.ensures))
    (written_customer c.args.self.now c.requires c.part_bytes.ensures.fits)
