-- The first word of a line that no event has there.
use Rattle.std.specs.Prelude.{◌≡◌, ℕ, ◌-◌, ◌+◌, ◌≤◌, List, ◌++◌, length, take, slice_get, Some, None}
use Rattle.bench_base.specs.declared.events.Event.{Event}
use Rattle.bench_base.specs.Events.{IsWholeEvent}
use Rattle.script_text.specs.Grammar.{AreWordsOf}

-- some event begins with these words
abbrev pub BeginAnEvent : List (List ℕ) → Type 0
BeginAnEvent prefix = (e : Event) × (rest : List (List ℕ)) × IsWholeEvent e × AreWordsOf e (prefix ++ rest)

-- The words before this place, counted from 1, begin some event, and with the word there they begin none; or the line ends before it.
pub record IsFirstWrong (place : ℕ) (ws : List (List ℕ)) : Type 0 where
  pub counted : 1 ≤ place
  pub inside : place ≤ length ws + 1
  pub before : BeginAnEvent (take (place - 1) ws)
  pub not_with : place ≤ length ws → BeginAnEvent (take place ws) → ⊥

-- this is the word at this place, counted from 1
abbrev pub IsWordAt : ℕ → List (List ℕ) → List ℕ → Type 0
IsWordAt place ws w = slice_get ws (place - 1) ≡ Some w

-- no word is there: the place is the one after the last word
abbrev pub IsBehindAll : ℕ → List (List ℕ) → Type 0
IsBehindAll place ws = slice_get ws (place - 1) ≡ None
