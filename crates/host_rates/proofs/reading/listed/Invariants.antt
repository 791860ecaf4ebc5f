use Rattle.host_rates.proofs.Views.{IsReadUpTo}
use Rattle.host_rates.proofs.reading.listed.Given as goal

abbrev pub invariant-loop-value : goal.invariant-loop-value
invariant-loop-value g l = IsReadUpTo (g.T.Item.item_of l.zones) l.value-items l.value-index l.items.items
