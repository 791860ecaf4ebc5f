use Rattle.std.proofs.Common.{◌∙◌, sym}
use Rattle.psd_state.proofs.Under.{genuine_found, genuine_read}
use Rattle.psd_state.proofs.parts.read_mark.Goals as goal
use Rattle.bench_base.proofs.Facts.{not_so, is_so}

pub returns-then-not-is_genuine-clause-none : goal.returns-then-not-is_genuine-clause-none
returns-then-not-is_genuine-clause-none c = λ k w e. not_so _ _ c.is_genuine.ensures c.if-not-is_genuine.true (k, w, sym e)

pub returns-in-Ok-clause-found : goal.returns-in-Ok-clause-found
returns-in-Ok-clause-found c =
    genuine_found c.args.bytes.now c.args.key.now c.in-Ok.found c.in-Ok.ensures.found (is_so _ _ c.is_genuine.ensures c.if-not-is_genuine.false)

pub returns-in-Err-clause-none : goal.returns-in-Err-clause-none
returns-in-Err-clause-none c =
    λ k w e. genuine_read c.args.bytes.now c.args.key.now c.in-Err.field-0 (sym c.read_indicium.ensures.exact ∙ c.in-Err.is) (k, w, sym e)
