use Rattle.std.proofs.Common.{take}
use Rattle.script_words.proofs.Splits.{Solid}
use Rattle.script_words.proofs.word.split_word.Given as goal

abbrev pub invariant-loop-i : goal.invariant-loop-i
invariant-loop-i l = Solid (take l.i l.bytes)
