use Rattle.std.proofs.Common.{◌≡◌, sym, ◌∙◌, arith, true≢false, decimal}
use Rattle.mail_manifest.proofs.Reading.{one_number}
use Rattle.mail_manifest.proofs.lines.read_open.Goals as goal

pub returns-else-is_opening-clause-none : goal.returns-else-is_opening-clause-none
returns-else-is_opening-clause-none c o line is =
    let found = c.in-Ok.ensures.found in
    let first : decimal c.in-Ok.read.0 ≡ decimal o.first = cc in
    let count : decimal c.in-Ok.read.1 ≡ decimal o.count = cc in
    let a = one_number c.in-Ok.read.0 o.first (omega (arith, found.0)) (omega (arith, line.numbers.last)) first in
    let b = one_number c.in-Ok.read.1 o.count (omega (arith, found.1)) (omega (arith, line.numbers.most)) count in
    true≢false (sym (c.is_opening.ensures.1 (record {
      first = omega (arith, a, line.numbers.first);
      some = omega (arith, b, line.numbers.some);
      most = omega (arith, b, line.numbers.most);
      last = omega (arith, a, b, line.numbers.last);
    })) ∙ c.if-is_opening.false)
