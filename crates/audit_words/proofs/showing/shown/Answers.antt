use Rattle.std.proofs.Common.{◌≡◌, ℕ, List, [], ◌++◌, ◌+◌, ◌<◌, length, take, get_or, sym, ◌∙◌, ap, subst, arith}
use Rattle.std.specs.Prelude.{All}
use Rattle.std.proofs.lemmas.List.{take_more, flat_map_more}
use Rattle.std.proofs.lemmas.List.Elements.{All-append}
use Rattle.audit_words.specs.Shown.{IsPrintable, shown_byte, shown_bytes}
use Rattle.audit_words.proofs.showing.shown.Goals as goal

-- one byte more is shown
one_more : (bytes text more : List ℕ) (at : ℕ) → at < length bytes → text ≡ shown_bytes (take at bytes) → more ≡ text ++ shown_byte (get_or bytes at 0) → more ≡ shown_bytes (take (at + 1) bytes)
one_more bytes text more at inside before is =
    is ∙ ap (λ (l : List ℕ). l ++ shown_byte (get_or bytes at 0)) before ∙ flat_map_more shown_byte [] (take at bytes) (get_or bytes at 0) ∙ sym (ap shown_bytes (take_more bytes at 0 inside))

pub loop-at-preserved : goal.loop-at-preserved
loop-at-preserved c = record {
  exact = one_more c.args.bytes.now _ _ c.loop-at.at (omega arith) c.loop-at.invariant.exact c.in_ok-show_byte.ensures.exact;
  printable = subst (λ (l : List ℕ). All IsPrintable l) (sym c.in_ok-show_byte.ensures.exact) (All-append IsPrintable _ _ c.loop-at.invariant.printable c.in_ok-show_byte.ensures.printable);
}
