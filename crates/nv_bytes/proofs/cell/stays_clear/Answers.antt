use Rattle.std.proofs.Common.{sym, ◌∙◌}
use Rattle.nv_store.specs.Slot.{slots_at}
use Rattle.nv_bytes.proofs.Clear.{not_true, clear_open}
use Rattle.nv_bytes.proofs.cell.stays_clear.Goals as goal

pub returns-clause-yes : goal.returns-clause-yes
returns-clause-yes c is clear =
    clear_open c.args.place c.in-Some.count (slots_at c.args.size 0 c.args.cell.now) (sym c.count_at.ensures ∙ c.in-Some.is) c.if-count-eq0.false
    (c.is_repeated.ensures.no (not_true c.is_repeated.result is)) clear
