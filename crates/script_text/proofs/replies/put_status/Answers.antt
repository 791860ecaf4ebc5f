use Rattle.std.proofs.Common.{codes, decimal}
use Rattle.std.specs.Fmt.{signed_decimal}
use Rattle.script_text.specs.Refusals.{phase_word}
use Rattle.script_text.specs.Texts.{reply_words, pending_word}
use Rattle.script_words.specs.Words.{device_word}
use Rattle.script_text.proofs.Built.{first_word, with_word, with_named}
use Rattle.script_text.proofs.replies.put_status.Goals as goal

pub returns-clause-value : goal.returns-clause-value
unfolding reply_words
returns-clause-value c =
    let v = c.args.view in
    let a = first_word (codes "status") (device_word c.args.device) _ c.of_device.ensures.value in
    let b = with_word _ _ _ _ (phase_word v.phase) a (rw c.phase_word.ensures.value at c.word.ensures.value) in
    let d = with_named _ _ _ _ (codes "ascending") (decimal v.ascending) b c.named.ensures.value in
    let e = with_named _ _ _ _ (codes "descending") (decimal v.descending) d c.named-2.ensures.value in
    let f = with_named _ _ _ _ (codes "refunded") (decimal v.refunded) e c.named-3.ensures.value in
    let g = with_named _ _ _ _ (codes "pieces") (decimal v.pieces) f c.named-4.ensures.value in
    let h = with_named _ _ _ _ (codes "number") (decimal v.number) g c.named-5.ensures.value in
    let i = with_named _ _ _ _ (codes "deadline") (signed_decimal v.deadline) h c.put_deadline.ensures.value in
    let j = with_word _ _ _ _ (codes "pending") i c.word-2.ensures.value in
    (with_word _ _ _ _ (pending_word v.pending) j c.put_pending.ensures.value).is
