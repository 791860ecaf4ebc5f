use Rattle.std.proofs.Common.{◌≡◌, rules, sym, ap, subst, ◌∙◌}
use Rattle.psd_wire.specs.declared.message.Message.TheVariants as m
use Rattle.psd_wire.specs.Grammar.{spell}
use Rattle.centre_ledger.specs.declared.rows.DeviceRow.{DeviceRow}
use Rattle.centre_ledger.proofs.Asked.{code_has, asked, short}
use Rattle.centre_ledger.proofs.taking.request_act.Goals as goal

pub of-requires : goal.of-requires
of-requires c =
    let q = c.args.request.now in
    let key = c.key-key.result.now in
    let bytes = c.args.bytes.now in
    let is = asked q key bytes (search rules) c.requires.reads (code_has key bytes (sym c.is_own_code.ensures ∙ c.if-not-is_own_code.false)) in
    short q key bytes is.0 is.1

pub ruled_act-requires-clause-whole : goal.ruled_act-requires-clause-whole
ruled_act-requires-clause-whole c =
    let q = c.args.request.now in
    let key = c.key-key.result.now in
    let bytes = c.args.bytes.now in
    (asked q key bytes (search rules) c.requires.reads (code_has key bytes (sym c.is_own_code.ensures ∙ c.if-not-is_own_code.false))).0

pub ruled_act-requires-clause-spelled : goal.ruled_act-requires-clause-spelled
ruled_act-requires-clause-spelled c =
    let q = c.args.request.now in
    let key = c.key-key.result.now in
    let bytes = c.args.bytes.now in
    let is = asked q key bytes (search rules) c.requires.reads (code_has key bytes (sym c.is_own_code.ensures ∙ c.if-not-is_own_code.false)) in
    let here = c.key-key.ensures ∙ sym (ap (λ (r : DeviceRow). r.key) c.row-row.ensures) in
    subst (λ k. spell (m.Request q) k ≡ c.of.result) here (is.1 ∙ sym c.of.ensures)
