use Rattle.std.proofs.Common.{◌≡◌, ◌∙◌, ◌∷◌, List, ℕ, Result, Ok, Err, ap, sym, subst}
use Rattle.std.specs.Prelude.{IfOk, IfErr}
use Rattle.bench_base.specs.declared.events.Event.{Event}
use Rattle.bench_base.specs.Events.{IsWholeEvent}
use Rattle.script_text.specs.Grammar.{Spells}
use Rattle.script_text.specs.Keywords.{keyword_word}
use Rattle.script_text.specs.Reading.{AreNoWords, IsEventOf, IsEventBehind}
use Rattle.script_words.specs.Words.{words_in}
use Rattle.script_words.specs.declared.word.LineFault.{LineFault}
use Rattle.script_text.specs.declared.keyword.Keyword.{Keyword}
use Rattle.script_text.proofs.EachEvent.{no_keyword, spelled, words_spelled, one_event_of}
use Rattle.script_text.proofs.events.read_event.Goals as goal

-- what the words of a line read as, the line does
module _ (line : List ℕ) where
  found : (r : Result Event LineFault) → IsEventOf (words_in line) r → IfOk r (λ e. IsWholeEvent e × Spells e line)
  found (Ok e) read = (read.0, spelled e line read.1)
  found (Err fault) read = tt

  none : (r : Result Event LineFault) → IsEventOf (words_in line) r → IfErr r (λ fault. (e : Event) → IsWholeEvent e → Spells e line → ⊥)
  none (Ok e) read = tt
  none (Err fault) read = λ e whole spells. read e whole (words_spelled e line whole spells)

  only : (r : Result Event LineFault) → IsEventOf (words_in line) r → (e : Event) → IsWholeEvent e → Spells e line → r ≡ Ok e
  only (Ok x) read e whole spells = ap Ok (one_event_of x e line read.0 whole (spelled x line read.1) spells)
  only (Err fault) read e whole spells = absurd (read e whole (words_spelled e line whole spells))

-- what follows the keyword reads as the line does
behind : (line word : List ℕ) (rest : List (List ℕ)) (k : Keyword) (r : Result Event LineFault) → words_in line ≡ word ∷ rest → word ≡ keyword_word k → IsEventBehind k rest r → IsEventOf (words_in line) r
behind line word rest k r split key read = subst (λ ws. IsEventOf ws r) (sym (split ∙ ap (λ w. w ∷ rest) key)) read

pub returns-in-Some-read_keyword : goal.returns-in-Some-read_keyword
returns-in-Some-read_keyword c =
    let line = c.args.line.now in
    let r = c.read_behind.result in
    let read = behind line _ _ _ r c.in-Some.ensures.split c.in-Some-read_keyword.ensures.read c.read_behind.ensures.read in
    record { found = found line r read; none = none line r read; only = only line r read }

pub returns-in-None-read_keyword : goal.returns-in-None-read_keyword
returns-in-None-read_keyword c =
    let line = c.args.line.now in
    let r = Err (record {}) in
    let read = subst AreNoWords (sym c.in-Some.ensures.split) (no_keyword _ _ c.in-None-read_keyword.ensures.read) in
    record { found = found line r read; none = none line r read; only = only line r read }

pub returns-in-None : goal.returns-in-None
returns-in-None c =
    let line = c.args.line.now in
    let r = c.read_alone.result in
    let read = subst (λ ws. IsEventOf ws r) (sym c.in-None.ensures.split) c.read_alone.ensures.read in
    record { found = found line r read; none = none line r read; only = only line r read }
