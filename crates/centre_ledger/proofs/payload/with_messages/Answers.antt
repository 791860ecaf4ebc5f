use Rattle.std.proofs.Common.{◌≡◌, sym, ap, subst, ◌∙◌, arith, true≢false}
use Rattle.centre_ledger.specs.Soundness.{IsSoundDevice}
use Rattle.centre_ledger.specs.Payload.{message_part}
use Rattle.centre_ledger.specs.Parts.{bare, IsStored, KeepMessages}
use Rattle.centre_ledger.specs.declared.rows.DeviceRow.{DeviceRow}
use Rattle.centre_ledger.proofs.Parted.{bare_request, bare_reply, stored_part, one_stored, same_row}
use Rattle.centre_ledger.proofs.payload.with_messages.Goals as goal

pub returns-in_default-clause-none : goal.returns-in_default-clause-none
returns-in_default-clause-none c =
    λ r sound e k. c.in_default.ensures.none r.request
    (subst (λ key. IsStored c.args.version c.args.row.now.ruled c.request_front-front.result key c.args.request.now r.request) (sym c.new-key.ensures)
    (bare_request _ _ c.args.row.now r c.args.request.now c.requires.version c.request_front-front.ensures.value sound e c.requires.request k.first))

pub returns-in_default-stored-clause-none : goal.returns-in_default-stored-clause-none
returns-in_default-stored-clause-none c =
    λ r sound e k. c.in_default-stored.ensures.none r.reply
    (subst (λ key. IsStored c.args.version c.args.row.now.ruled c.reply_front-front.result key c.args.reply.now r.reply) (sym c.new-key.ensures)
    (bare_reply _ _ c.args.row.now r c.args.reply.now c.requires.version c.reply_front-front.ensures.value sound e c.requires.reply k.second))

pub returns-then-is_sound_device-clause-found : goal.returns-then-is_sound_device-clause-found
returns-then-is_sound_device-clause-found c =
    subst (λ (r : DeviceRow). (bare r ≡ c.args.row.now) × KeepMessages c.args.version c.args.request.now c.args.reply.now r) (sym c.with.ensures) (
      c.requires.bare,
      record {
        first = ap (λ n. message_part c.args.version n c.in-Some.request) (sym c.requires.request)
            ∙ stored_part c.args.version c.args.row.now.ruled c.request_front-front.result c.new-key.result c.args.request.now c.in-Some.request
            (omega (arith, c.request_front-front.ensures.most, c.requires.request)) c.in-Some.ensures.found;
        second = ap (λ n. message_part c.args.version n c.in-Some-stored.reply) (sym c.requires.reply)
            ∙ stored_part c.args.version c.args.row.now.ruled c.reply_front-front.result c.new-key.result c.args.reply.now c.in-Some-stored.reply
            (omega (arith, c.reply_front-front.ensures.most, c.requires.reply)) c.in-Some-stored.ensures.found;
      },
    )

pub returns-else-is_sound_device-clause-none : goal.returns-else-is_sound_device-clause-none
returns-else-is_sound_device-clause-none c =
    λ r sound e k.
    let request =
    one_stored c.args.version c.args.row.now.ruled c.request_front-front.result c.args.row.now.key c.args.request.now r.request c.in-Some.request c.requires.version
    (bare_request _ _ c.args.row.now r c.args.request.now c.requires.version c.request_front-front.ensures.value sound e c.requires.request k.first)
    (subst (λ key. IsStored c.args.version c.args.row.now.ruled c.request_front-front.result key c.args.request.now c.in-Some.request) c.new-key.ensures c.in-Some.ensures.found) in
    let reply =
    one_stored c.args.version c.args.row.now.ruled c.reply_front-front.result c.args.row.now.key c.args.reply.now r.reply c.in-Some-stored.reply c.requires.version
    (bare_reply _ _ c.args.row.now r c.args.reply.now c.requires.version c.reply_front-front.ensures.value sound e c.requires.reply k.second)
    (subst (λ key. IsStored c.args.version c.args.row.now.ruled c.reply_front-front.result key c.args.reply.now c.in-Some-stored.reply) c.new-key.ensures c.in-Some-stored.ensures.found) in
    let same = same_row r (record c.args.row.now { request = c.in-Some.request; reply = c.in-Some-stored.reply }) (e ∙ sym c.requires.bare) request reply in
    absurd (true≢false (sym (c.is_sound_device.ensures.1 (subst IsSoundDevice same sound)) ∙ c.if-is_sound_device.false))
