use Rattle.std.proofs.Common.{◌≡◌, drop}
use Rattle.script_words.specs.Words.{words_in}
use Rattle.script_check.proofs.line.word_behind.Given as goal

abbrev pub invariant-loop-at : goal.invariant-loop-at
invariant-loop-at l = words_in l.rest ≡ drop l._at (words_in l.words)
