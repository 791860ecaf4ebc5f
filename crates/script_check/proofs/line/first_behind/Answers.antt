use Rattle.std.proofs.Common.{List, subst}
use Rattle.script_words.specs.Words.{words_in}
use Rattle.script_check.specs.Forms.{IsTaken}
use Rattle.script_text.specs.Keywords.{keyword_word}
use Rattle.script_check.specs.declared.slots.Slot.{Slot}
use Rattle.script_check.proofs.Behind.{found_for}
use Rattle.script_check.proofs.Firsts.{wrong_behind}
use Rattle.script_check.proofs.line.first_behind.Goals as goal

pub returns-clause-first : goal.returns-clause-first
returns-clause-first c =
    let ws = words_in c.args.rest.now in
    let count = c.greater-count in
    wrong_behind c.args.keyword ws c.count_taken-first.result c.count_taken-second.result count.result c.fault_at.result.place
    (subst (λ (form : List Slot). IsTaken form ws c.count_taken-first.result) c.form_behind.ensures c.count_taken-first.ensures.taken)
    (subst (λ (form : List Slot). IsTaken form ws c.count_taken-second.result) c.form_beside.ensures c.count_taken-second.ensures.taken)
    count.ensures.first count.ensures.second count.ensures.one c.fault_at.ensures.place

pub returns-clause-found : goal.returns-clause-found
returns-clause-found c =
    found_for (keyword_word c.args.keyword) (words_in c.args.rest.now) c.greater-count.result c.fault_at.result.place c.word_behind.result c.fault_at.result.found
    c.fault_at.ensures.found c.fault_at.ensures.place c.word_behind.ensures
