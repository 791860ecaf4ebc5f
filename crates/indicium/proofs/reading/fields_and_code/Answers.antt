use Rattle.std.proofs.Common.{length, drop, ◌-◌, ap, sym, ◌∙◌, arith, Ok}
use Rattle.std.proofs.lemmas.List.{take_all, length-drop}
use Rattle.indicium.specs.Marks.{mark_at}
use Rattle.indicium.proofs.Readings.{read_mark_ok}
use Rattle.indicium.proofs.reading.fields_and_code.Goals as goal

pub returns : goal.returns
returns c = record {
  exact =
      let rest = take_all (length c.args.bytes.now - 32) (drop 32 c.args.bytes.now) (omega (arith, length-drop 32 c.args.bytes.now)) in
      ap (λ m. Ok (m, c.copy_from_slice.new.self)) c.mark_of-mark.ensures
      ∙ ap (λ k. Ok (mark_at c.args.bytes.now, k)) (c.copy_from_slice.ensures.after ∙ rest)
      ∙ sym (read_mark_ok c.args.bytes.now c.if-bytes-ne-LENGTH.false (sym c.is_known_version.ensures ∙ c.if-not-is_known_version.false) c.if-bytes-ne1.false);
}
