use Rattle.std.proofs.Common.{◌∷◌}
use Rattle.trace_extensions.proofs.Cuts.{none_left}
use Rattle.trace_extensions.proofs.Lines.{no_line_read, no_long_read}
use Rattle.trace_extensions.proofs.stopping.own_unbegun.Goals as goal

pub returns-in-End-clause-only : goal.returns-in-End-clause-only
returns-in-End-clause-only g c = λ byte more report.
    let t = c.in-End.ensures.taken in
    let none = none_left _ _ (byte ∷ more) report t.0 t.2.0 t.2.1 t.1 in
    absurd (cc (none))

pub returns-in-Line-clause-stops : goal.returns-in-Line-clause-stops
returns-in-Line-clause-stops g c = λ empty.
    let t = c.in-Line.ensures.taken in
    absurd (no_line_read _ _ c.in-Line.field-1 _ _ _ t.1 empty t.2.2)

pub returns-in-Long-clause-stops : goal.returns-in-Long-clause-stops
returns-in-Long-clause-stops g c = λ empty.
    let t = c.in-Long.ensures.taken in
    absurd (no_long_read _ _ _ t.1 empty t.2.1)
