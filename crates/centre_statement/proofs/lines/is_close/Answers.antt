use Rattle.std.proofs.Common.{sym, true≢false}
use Rattle.centre_statement.proofs.lines.is_close.Goals as goal

pub returns-in-Err : goal.returns-in-Err
returns-in-Err c = (λ wrong. absurd (true≢false (sym wrong)), λ is. absurd (c.in-Err.ensures.none _ tt is))
