use Rattle.std.proofs.Common.{rules, append_assoc}
use Rattle.script_text.specs.Refusals.{centre_words}
use Rattle.script_text.proofs.refusals.put_centre_refusal.Goals as goal

pub returns-in-UnknownCustomer-clause-value : goal.returns-in-UnknownCustomer-clause-value
unfolding centre_words
returns-in-UnknownCustomer-clause-value c =
    rw (c.in-UnknownCustomer.is, c.number-in-UnknownCustomer.ensures.value, c.word-in-UnknownCustomer.ensures.value) (search (rules, append_assoc))
