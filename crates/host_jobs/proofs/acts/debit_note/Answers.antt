use Rattle.std.proofs.Common.{ℕ, lit<, ap, ◌∙◌, arith}
use Rattle.psd_wire.specs.declared.message.Message.TheVariants as m
use Rattle.psd_wire.specs.Grammar.{body, spell}
use Rattle.host_jobs.proofs.acts.debit_note.Goals as goal

pub write_message-requires : goal.write_message-requires
write_message-requires c = (lit< tt, (lit< tt, (omega (arith, c.get.ensures.range), (omega arith, (omega arith, (omega arith, tt))))))

pub returns : goal.returns
unfolding spell
returns c =
    let r = c.args.row.now in
    c.write_message.ensures ∙ ap (λ (d : ℕ). body (m.Debit (record { device = d; piece = r.piece; postage = r.postage; class = r.class }))) c.get.ensures.value
