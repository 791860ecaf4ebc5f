use Rattle.std.proofs.Common.{sym, ap, ◌∙◌, true≢false}
use Rattle.psd_wire.specs.Grammar.{read}
use Rattle.centre_ledger.specs.Parts as parts
use Rattle.centre_ledger.proofs.Checks.{ruling_made, ruling_parts, no_request, no_reply}
use Rattle.centre_ledger.proofs.soundness.is_ruling_right.Goals as goal

pub returns-in_default : goal.returns-in_default
returns-in_default c =
    let is = sym (c.request_of.ensures ∙ ap parts.request_of (c.read_message.ensures.exact ∙ ap read c.as_slice.ensures)) ∙ c.in_default.is in
    (λ h. absurd (true≢false (sym h)), λ h. absurd (no_request c.args.row.now is h.0 h.1 h.2))

pub returns-in_default-reply_of : goal.returns-in_default-reply_of
returns-in_default-reply_of c =
    let is = sym (c.reply_of.ensures ∙ ap parts.reply_of (c.read_message-2.ensures.exact ∙ ap read c.as_slice-2.ensures)) ∙ c.in_default-reply_of.is in
    (λ h. absurd (true≢false (sym h)), λ h. absurd (no_reply c.args.row.now is h.0 h.1 h.2))

pub returns-then-is_answer : goal.returns-then-is_answer
returns-then-is_answer c =
    let request = sym (c.request_of.ensures ∙ ap parts.request_of (c.read_message.ensures.exact ∙ ap read c.as_slice.ensures)) ∙ c.in-Some.is in
    let reply = sym (c.reply_of.ensures ∙ ap parts.reply_of (c.read_message-2.ensures.exact ∙ ap read c.as_slice-2.ensures)) ∙ c.in-Some-reply_of.is in (
      λ h. (c.in-Some.request, c.in-Some-reply_of.reply, ruling_made c.args.row.now _ _ c.requires.request c.requires.reply request reply (c.is_answer.ensures.0 c.if-is_answer.true) (c.is_covered.ensures.0 h)),
      λ h. c.is_covered.ensures.1 (ruling_parts c.args.row.now _ _ request reply h.0 h.1 h.2).1,
    )

pub returns-else-is_answer : goal.returns-else-is_answer
returns-else-is_answer c =
    let request = sym (c.request_of.ensures ∙ ap parts.request_of (c.read_message.ensures.exact ∙ ap read c.as_slice.ensures)) ∙ c.in-Some.is in
    let reply = sym (c.reply_of.ensures ∙ ap parts.reply_of (c.read_message-2.ensures.exact ∙ ap read c.as_slice-2.ensures)) ∙ c.in-Some-reply_of.is in (
      λ h. absurd (true≢false (sym h ∙ c.if-is_answer.false)),
      λ h. c.is_answer.ensures.1 (ruling_parts c.args.row.now _ _ request reply h.0 h.1 h.2).0,
    )
