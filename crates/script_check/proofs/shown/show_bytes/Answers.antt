use Rattle.std.proofs.Common.{◌≡◌, ℕ, List, [], ◌++◌, ◌+◌, ◌<◌, length, take, get_or, flat_map, sym, ◌∙◌, ap, arith, rules}
use Rattle.std.proofs.Output.{has_written_append, has_written_of_eq}
use Rattle.std.proofs.lemmas.List.{take_more, flat_map_more}
use Rattle.script_check.specs.Texts.{shown_byte}
use Rattle.script_check.proofs.shown.show_bytes.Goals as goal

one_more : (bytes : List ℕ) (at : ℕ) → at < length bytes → flat_map shown_byte (take at bytes) ++ shown_byte (get_or bytes at 0) ≡ flat_map shown_byte (take (at + 1) bytes)
one_more bytes at inside = flat_map_more shown_byte [] (take at bytes) (get_or bytes at 0) ∙ sym (ap (flat_map shown_byte) (take_more bytes at 0 inside))

pub loop-at-preserved : goal.loop-at-preserved
loop-at-preserved g c = λ plain.
    has_written_of_eq _ _ _ _ _ (one_more c.args.bytes.now c.loop-at.at (omega arith)) (has_written_append _ _ _ _ _ _ (c.loop-at.invariant plain) (search rules))
