use Rattle.centre_ledger.proofs.Joined.{row_laid}
use Rattle.centre_ledger.proofs.payload.joined.Goals as goal

pub returns-clause-value : goal.returns-clause-value
returns-clause-value c =
    row_laid _ _ _ _ _ _ _ _ _ _ c.told-head c.told-key c.told-sums c.requires.request c.requires.reply c.put.ensures c.put-2.ensures c.put-3.ensures c.put-4.ensures c.put-5.ensures
