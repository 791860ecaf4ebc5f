use Rattle.std.proofs.Common.{◌≡◌, ◌-◌, ℕ, List, length, take, drop, Ok, Err, sym, ◌∙◌, arith}
use Rattle.std.proofs.lemmas.List.{take_all, length-drop, length-take}
use Rattle.bench_base.specs.Table.{IsBytes}
use Rattle.indicium.proofs.Readings as laws
use Rattle.indicium.proofs.reading.verify_mark_by.Goals as goal

-- the slice from byte 32 on
rest : (bytes : List ℕ) → take (length bytes - 32) (drop 32 bytes) ≡ drop 32 bytes
rest bytes = take_all (length bytes - 32) (drop 32 bytes) (omega (arith, length-drop 32 bytes))

pub slice_bounds-matches-end : goal.slice_bounds-matches-end
slice_bounds-matches-end c = omega (arith, c.in-Ok.ensures.long, length-take 32 c.args.bytes.now)

pub returns-in-Ok : goal.returns-in-Ok
returns-in-Ok c =
    let bytes : IsBytes c.args.bytes.now = λ i. omega (arith, c.type_inv.bytes i) in (
      λ right. laws.genuine c.args.bytes.now c.args.key.now c.in-Ok.field-0 bytes (sym c.read_indicium.ensures.exact ∙ c.in-Ok.is)
          (sym (rest c.args.bytes.now) ∙ c.matches.ensures.0 right),
      λ spelled. c.matches.ensures.1 (rest c.args.bytes.now ∙ let code = laws.code_of c.args.bytes.now c.args.key.now spelled in code.1),
    )

pub returns-in-Err : goal.returns-in-Err
returns-in-Err c = (
  λ never. absurd (cc),
  λ spelled. let code = laws.code_of c.args.bytes.now c.args.key.now spelled in
      let read : Ok code.0.0 ≡ Err c.in-Err.field-0 = sym code.0.1 ∙ sym c.read_indicium.ensures.exact ∙ c.in-Err.is in absurd (cc),
)
