use Rattle.std.proofs.Common.{sym}
use Rattle.mail_manifest.proofs.Marks.{marks_long}
use Rattle.mail_manifest.proofs.manifest.Manifest.pieces.Goals as goal

pub returns-clause-as_many : goal.returns-clause-as_many
returns-clause-as_many c = sym (marks_long _ _)
