use Rattle.std.proofs.Common.{◌≡◌, length, sym, arith}
use Rattle.bench_base.specs.declared.sizes.TheConstants.{BLOCK_PIECES}
use Rattle.payload_rows.proofs.Same.{scans_same}
use Rattle.trace_images.proofs.verifier_rows.scans_of.Goals as goal

pub returns : goal.returns
returns c =
    let i = c.loop-place.invariant in
    let long : length c.loop-place.scans ≡ BLOCK_PIECES = omega (arith, i.long) in
    sym (scans_same c.args.payload.now c.loop-place.scans long (λ j lt. sym (i.each j (omega (arith, lt, c.loop-place-test.false)))))
