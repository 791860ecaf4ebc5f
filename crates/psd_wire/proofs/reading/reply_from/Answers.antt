use Rattle.std.proofs.Common.{if◌then◌else◌, get_or, ne_eqb, sym, ap, ◌∙◌}
use Rattle.bench_base.specs.Table.{Four, Eight, values}
use Rattle.psd_wire.specs.Grammar.{reply_in, reply_table, reply_at}
use Rattle.psd_wire.proofs.reading.reply_from.Goals as goal

pub returns-else-bytes-eq1 : goal.returns-else-bytes-eq1
unfolding reply_at
returns-else-bytes-eq1 c =
    c.second_reply.ensures
    ∙ ap (λ b. reply_in (values 0 (reply_table (if b then Four else Eight)) c.args.bytes.now)) (sym (ne_eqb (get_or c.args.bytes.now 0 0) 1 c.if-bytes-eq1.false))
