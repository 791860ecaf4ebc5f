use Rattle.std.proofs.Common.{◌∙◌, ap, List, ℕ, length}
use Rattle.mail_manifest.proofs.Reading.{one_mark}
use Rattle.mail_manifest.proofs.lines.read_piece.Goals as goal

pub returns-in-None-clause-none : goal.returns-in-None-clause-none
returns-in-None-clause-none c mark long bytes is =
    let found = c.in-Ok.ensures.found in
    c.in-None.ensures.none (ap (λ (l : List ℕ). length l) (one_mark _ c.in-Ok.read mark found.0.1 bytes long found.1 is) ∙ long)
