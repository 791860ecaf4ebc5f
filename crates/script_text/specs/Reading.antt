-- What the words after a keyword read as.
use Rattle.std.specs.Prelude.{ℕ, List, ◌∷◌, Result, Ok, Err}
use Rattle.bench_base.specs.declared.events.Event.{Event}
use Rattle.bench_base.specs.Events.{IsWholeEvent}
use Rattle.script_text.specs.Grammar.{AreWordsOf}
use Rattle.script_text.specs.Keywords.{keyword_word}
use Rattle.script_words.specs.declared.word.LineFault.{LineFault}
use Rattle.script_text.specs.declared.keyword.Keyword.{Keyword}

-- no event has these words
abbrev pub AreNoWords : List (List ℕ) → Type 0
AreNoWords ws = (e : Event) → IsWholeEvent e → AreWordsOf e ws → ⊥

-- the event is whole and has these words; if there is no such event, no event has them
abbrev pub IsEventOf : List (List ℕ) → Result Event LineFault → Type 0
IsEventOf ws (Ok e) = IsWholeEvent e × AreWordsOf e ws
IsEventOf ws (Err fault) = AreNoWords ws

-- so it is with the keyword in front of the words
abbrev pub IsEventBehind : Keyword → List (List ℕ) → Result Event LineFault → Type 0
IsEventBehind k ws r = IsEventOf (keyword_word k ∷ ws) r
