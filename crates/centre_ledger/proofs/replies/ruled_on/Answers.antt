use Rattle.std.proofs.Common.{◌≡◌, ◌+◌, ◌<◌, rules, sym, ap, subst, ◌∙◌, arith}
use Rattle.psd_wire.specs.declared.message.ReplyMsg.{ReplyMsg}
use Rattle.psd_wire.specs.declared.message.Message.TheVariants as m
use Rattle.psd_wire.specs.Grammar.{IsWhole, spell}
use Rattle.centre_ledger.specs.Soundness.{IsSoundDevice}
use Rattle.centre_ledger.specs.Rows.{ruled_row}
use Rattle.centre_ledger.proofs.Keeping.{names_customer, reply_whole, sums_after, ruled_sound}
use Rattle.centre_ledger.proofs.replies.ruled_on.Goals as goal

pub write_message_by-requires : goal.write_message_by-requires
write_message_by-requires c =
    let known = c.reply_by.type_inv in
    let origin : c.reply_by.result.origin < 4294967296 = search rules in
    let same : c.reply_by.result.origin ≡ c.args.row.now.origin = ap (λ (p : ReplyMsg). p.origin) c.reply_by.ensures in
    subst (λ (p : ReplyMsg). IsWhole (m.Reply p)) (sym c.reply_by.ensures)
    (reply_whole c.args.row.now c.args.verdict c.args.balance c.args.request.now c.requires.sound (omega arith) c.requires.whole c.requires.verdict)

pub enrolment_after-requires : goal.enrolment_after-requires
enrolment_after-requires c = names_customer c.args.row.now c.args.verdict c.args.balance c.args.request.now c.requires.verdict

pub returns-clause-sound : goal.returns-clause-sound
returns-clause-sound c =
    let r = c.args.row.now in
    let q = c.args.request.now in
    let known = c.reply_by.type_inv in
    let origin : c.reply_by.result.origin < 4294967296 = search rules in
    let same_origin : c.reply_by.result.origin ≡ r.origin = ap (λ (p : ReplyMsg). p.origin) c.reply_by.ensures in
    let reply = c.write_message_by.ensures ∙ ap (spell (m.Reply c.reply_by.result)) c.requires.key ∙ ap (λ (p : ReplyMsg). spell (m.Reply p) r.key) c.reply_by.ensures in
    let buys = ap (λ n. r.buys + n) c.adds.ensures.exact in
    let returns = ap (λ n. r.returns + n) c.takes.ensures.exact in
    let same : ruled_row r c.args.verdict c.args.balance q c.args.bytes.now ≡ _ = λ i. record {
      device = r.device;
      enrolment = sym c.enrolment_after.ensures i;
      origin = r.origin;
      key = r.key;
      ruled = q.number;
      settled = r.ruled;
      buys = sym buys i;
      returns = sym returns i;
      request = c.args.bytes.now;
      reply = sym reply i;
    } in
    subst IsSoundDevice same
    (ruled_sound r c.args.verdict c.args.balance q c.args.bytes.now c.requires.sound (omega arith) c.requires.whole c.requires.spelled c.requires.device c.requires.number c.requires.verdict)

pub overflow_add-result : goal.overflow_add-result
overflow_add-result c =
    let sums = sums_after c.args.row.now c.args.verdict c.args.balance c.args.request.now c.requires.sound c.requires.verdict in
    record { fits = omega (arith, sums.limit, c.adds.ensures.exact) }

pub overflow_add-result-2 : goal.overflow_add-result-2
overflow_add-result-2 c =
    let sums = sums_after c.args.row.now c.args.verdict c.args.balance c.args.request.now c.requires.sound c.requires.verdict in
    record { fits = omega (arith, sums.limit, sums.returns_le, c.takes.ensures.exact) }
