use Rattle.std.proofs.Common.{arith, rules, ap, sym, subst, refl}
use Rattle.bench_base.proofs.Facts.{read_sfits}
use Rattle.std.specs.Int.{w32}
use Rattle.registers.specs.Sums.{Sums, Sound}
use Rattle.psd_state.proofs.Read.{ranges_made}
use Rattle.psd_state.proofs.payload.record_of.Goals as goal

pub returns-clause-fits : goal.returns-clause-fits
returns-clause-fits c =
    let value = c.in-Some-registers_of.ensures.value in
    let sound : Sound c.in-Some-registers_of.registers = subst Sound (sym value) (c.in-Some-registers_of.ensures.valid.0 refl) in
    let pieces = ap (λ (r : Sums). r.pieces) value in
    ranges_made _ c.in-Some.ensures.found.0 sound (omega (arith, c.get.ensures.range)) (search rules) (search rules) (search rules) (search rules) (search rules) (read_sfits w32 _) (read_sfits w32 _)
