use Rattle.std.proofs.Common.{arith, drop}
use Rattle.mail_manifest.proofs.Marks.{marks_long}
use Rattle.mail_manifest.proofs.manifest.Manifest.number.Goals as goal

pub overflow_add-result : goal.overflow_add-result
overflow_add-result c =
    let m = c.args.self.now in omega (arith, c.from.ensures, m.range.last, m.few, marks_long m.pieces (drop 14 m.text.items), c.requires.inside)
