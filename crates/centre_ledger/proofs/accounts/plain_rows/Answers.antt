use Rattle.std.proofs.Common.{None, rules}
use Rattle.std.proofs.lemmas.List.{ext_get_or}
use Rattle.centre_ledger.proofs.accounts.plain_rows.Goals as goal

pub returns : goal.returns
returns c = ext_get_or None _ c.args.devices.now (search rules) (λ k inside. c.loop-place.invariant.1 k (search rules))
