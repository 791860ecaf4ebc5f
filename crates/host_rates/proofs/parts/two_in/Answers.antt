use Rattle.std.proofs.Common.{rules}
use Rattle.host_rates.proofs.Views.{key_count_members_view}
use Rattle.host_rates.proofs.parts.two_in.Goals as goal

pub returns-then-len-ne2 : goal.returns-then-len-ne2
returns-then-len-ne2 c = rw (key_count_members_view c.args.table.now.entries, ← c.len.ensures.len) (search rules)

pub returns : goal.returns
returns c = rw (key_count_members_view c.args.table.now.entries, ← c.len.ensures.len) (search rules)
