use Rattle.std.proofs.Common.{◌≡◌, ℕ, ℤ, List, Some, take, drop, sym, ap, subst, ◌∙◌, refl, FitsSigned}
use Rattle.std.specs.Int.{w32, cast_signed}
use Rattle.std.proofs.lemmas.Int.{to_z-of_z}
use Rattle.bench_base.proofs.Facts.{read_sfits}
use Rattle.bench_base.proofs.Tables.{first_number}
use Rattle.bench_base.specs.Table.{number, Four}
use Rattle.psd_wire.specs.Grammar.{IsDay, day_of}
use Rattle.psd_wire.proofs.Readings.{byte_of, day_of_day}
use Rattle.psd_wire.proofs.reading.second_request.Goals as goal

pub returns : goal.returns
unfolding number
returns c =
    let bytes : List ℕ = c.args.bytes.now in
    let kind = sym c.kind_from.ensures ∙ c.in-Some.is in
    let today : ℤ = c.in-Some-new.day in
    let is : today ≡ cast_signed w32 (number Four (take 4 (drop 51 bytes))) =
    c.in-Some-new.ensures.value ∙ to_z-of_z w32 c.i32_at.result (subst (FitsSigned w32) (sym c.i32_at.ensures) (read_sfits w32 _)) ∙ c.i32_at.ensures in
    let range : IsDay today = subst IsDay (sym c.in-Some-new.ensures.value) (c.in-Some-new.ensures.valid.0 refl) in
    let day : day_of (cast_signed w32 (number Four (take 4 (drop 51 bytes)))) ≡ Some today = ap day_of (sym is) ∙ day_of_day today range in
    rw (
      c.u32_at.ensures,
      c.u32_at-2.ensures,
      c.u32_at-3.ensures,
      c.u32_at-4.ensures,
      c.u64_at.ensures,
      c.u64_at-2.ensures,
      c.u64_at-3.ensures,
      c.u64_at-4.ensures,
      first_number bytes,
      byte_of 10 bytes,
      kind,
      day,
    ) refl
