use Rattle.std.proofs.Common.{List, ℕ, sym, subst}
use Rattle.script_words.specs.Words.{words_in}
use Rattle.script_check.specs.Wrong.{IsFirstWrong}
use Rattle.script_check.proofs.Firsts.{wrong_first}
use Rattle.script_check.proofs.line.first_wrong.Goals as goal

pub returns-in-None-read_keyword-clause-first : goal.returns-in-None-read_keyword-clause-first
returns-in-None-read_keyword-clause-first c =
    subst (λ (ws : List (List ℕ)). IsFirstWrong c.fault_at.result.place ws) (sym c.in-Some.ensures.split)
    (wrong_first c.in-Some.word.now (words_in c.in-Some.rest.now) c.fault_at.result.place c.fault_at.ensures.place c.in-None-read_keyword.ensures.read)
