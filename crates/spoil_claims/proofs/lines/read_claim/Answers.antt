use Rattle.std.proofs.Common.{◌≡◌, ℕ, List, sym, subst, arith}
use Rattle.std.specs.Prelude.{IsOk}
use Rattle.indicium.specs.Marks.{read_mark}
use Rattle.spoil_claims.proofs.Reading.{one_mark}
use Rattle.spoil_claims.proofs.lines.read_claim.Goals as goal
use Rattle.script_text.proofs.ReadBack.{one_number}

pub returns-then-read-eq0-clause-none : goal.returns-then-read-eq0-clause-none
returns-then-read-eq0-clause-none c n w mark claim is =
    let found = c.in-Ok.ensures.found in
    let same : c.in-Ok.read.0 ≡ n = one_number _ c.in-Ok.read.0 n _ _ found.0 claim.word found.3 is in
    let zero = c.if-read-eq0.true in
    let first = claim.first in
    omega (arith, first, same, zero)

pub returns-in-None-clause-none : goal.returns-in-None-clause-none
returns-in-None-clause-none c n w mark claim is =
    let found = c.in-Ok.ensures.found in
    c.in-None.ensures.none (subst (λ (m : List ℕ). IsOk (read_mark m)) (sym (one_mark _ _ _ _ _ c.in-Ok.read.2 mark found.2.1 claim.bytes claim.long found.3 is)) claim.reads)
