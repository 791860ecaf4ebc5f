use Rattle.std.proofs.Common.{codes, decimal}
use Rattle.script_text.specs.Texts.{reply_words, flight_words}
use Rattle.script_words.specs.Words.{device_word}
use Rattle.script_text.proofs.Built.{first_word, with_word, with_words, with_named}
use Rattle.script_text.proofs.replies.put_reconciled.Goals as goal

pub returns-clause-value : goal.returns-clause-value
unfolding reply_words
returns-clause-value c =
    let a = first_word (codes "reconcile") (device_word c.args.device) _ c.of_device.ensures.value in
    let b = with_named _ _ _ _ (codes "device") (decimal c.args.own) a c.named.ensures.value in
    let d = with_named _ _ _ _ (codes "centre") (decimal c.args.centre) b c.named-2.ensures.value in
    let e = with_word _ _ _ _ (codes "in-flight") d c.word.ensures.value in
    (with_words _ _ _ _ (flight_words c.args.flight) e c.put_flight.ensures.value).is
