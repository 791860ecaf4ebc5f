use Rattle.std.proofs.Common.{ℕ, List, [], ◌∷◌, sym, subst}
use Rattle.script_check.specs.Wrong.{IsFirstWrong}
use Rattle.script_check.proofs.Firsts.{wrong_alone, wrong_first}
use Rattle.script_check.proofs.line.first_alone.Goals as goal

pub returns-in-Some-clause-first : goal.returns-in-Some-clause-first
returns-in-Some-clause-first c =
    subst (λ (w : List ℕ). IsFirstWrong c.fault_at.result.place (w ∷ [])) (sym c.in-Some.ensures.read)
    (wrong_alone c.in-Some.keyword c.fault_at.result.place c.fault_at.ensures.place)

pub returns-in-None-clause-first : goal.returns-in-None-clause-first
returns-in-None-clause-first c = wrong_first c.args.word.now [] c.fault_at-in-None.result.place c.fault_at-in-None.ensures.place c.in-None.ensures.read
