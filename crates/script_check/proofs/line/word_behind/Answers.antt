use Rattle.std.proofs.Common.{◌≡◌, ℕ, suc, ◌+◌, drop, slice_get, Some, sym, ◌∙◌, subst, arith}
use Rattle.script_words.specs.Words.{words_in}
use Rattle.script_check.proofs.Behind.{next_word, word_there, no_word}
use Rattle.script_check.proofs.line.word_behind.Goals as goal

pub returns-in-None : goal.returns-in-None
returns-in-None c =
    no_word (suc c.loop-at._at) c.args.count (words_in c.args.words.now)
    (next_word c.loop-at._at (words_in c.args.words.now) _ _ (sym c.in-None.ensures.split ∙ c.loop-at.invariant)) (omega (arith, c.loop-at-test.true))

pub loop-at-preserved : goal.loop-at-preserved
loop-at-preserved c =
    let more : suc c.loop-at._at ≡ c.loop-at._at + 1 = omega arith in
    subst (λ (n : ℕ). words_in c.in-Some.behind.now ≡ drop n (words_in c.args.words.now)) more
    (next_word c.loop-at._at (words_in c.args.words.now) _ _ (sym c.in-Some.ensures.split ∙ c.loop-at.invariant))

pub returns-in-Some-split_word : goal.returns-in-Some-split_word
returns-in-Some-split_word c =
    let all : c.loop-at._at ≡ c.args.count = omega (arith, c.loop-at-test.false, c.loop-at.auto._at-end) in
    subst (λ (n : ℕ). slice_get (words_in c.args.words.now) n ≡ Some c.in-Some-split_word.word.now) all
    (word_there c.loop-at._at (words_in c.args.words.now) _ _ (sym c.in-Some-split_word.ensures.split ∙ c.loop-at.invariant))

pub returns-in-None-split_word : goal.returns-in-None-split_word
returns-in-None-split_word c =
    let all : c.loop-at._at ≡ c.args.count = omega (arith, c.loop-at-test.false, c.loop-at.auto._at-end) in
    subst (λ (n : ℕ). slice_get (words_in c.args.words.now) n ≡ Some c.loop-at.rest.now) all
    (word_there c.loop-at._at (words_in c.args.words.now) _ _ (sym c.in-None-split_word.ensures.split ∙ c.loop-at.invariant))
