use Rattle.std.proofs.Common.{subst, arith, ◌≤◌, length}
use Rattle.std.proofs.lemmas.List.{take_all}
use Rattle.script_words.proofs.Splits.{Solid, Solid-more, words_in_solid, words_in_split}
use Rattle.script_words.proofs.word.split_word.Goals as goal

pub returns-then-bytes-i-eq32 : goal.returns-then-bytes-i-eq32
returns-then-bytes-i-eq32 c = record { split = words_in_split c.args.bytes.now c.loop-i.i c.loop-i-test.true c.if-bytes-i-eq32.true c.loop-i.invariant }

pub loop-i-preserved : goal.loop-i-preserved
loop-i-preserved c = Solid-more c.args.bytes.now c.loop-i.i c.loop-i-test.true c.loop-i.invariant c.if-bytes-i-eq32.false

pub returns : goal.returns
returns c =
    let all : length c.args.bytes.now ≤ c.loop-i.i = omega arith in
    record { split = words_in_solid c.args.bytes.now (subst Solid (take_all c.loop-i.i c.args.bytes.now all) c.loop-i.invariant) }
