-- The checker, as a desk.
use Rattle.std.specs.Prelude.{◌≡◌}
use Rattle.bench_base.specs.declared.events.Reply.{Reply}
use Rattle.line_extensions.specs.declared.extension.Extension.{Ghosts}
use Rattle.mail_manifest.specs.Courses.{Begins, GoesOn}
use Rattle.mail_manifest.specs.ManifestLines.{IsManifestLine}
use Rattle.mail_manifest.specs.Texts.{said_texts}
use Rattle.mail_manifest.specs.View.{listing_of, said_of}
use Rattle.mail_manifest.specs.Wanting.{MayWant}
use Rattle.mail_manifest.specs.Waits.{pieces_left}
use Rattle.mail_manifest.specs.declared.{checker.Checker.Checker, opening.ManifestLine.ManifestLine}

abbrev pub checker_desk : Ghosts Checker Reply
checker_desk = record {
  Own = ManifestLine;
  IsOwn = IsManifestLine;
  MayWant = MayWant;
  Passes = λ k line. (own : ManifestLine) → IsManifestLine own line → ⊥;
  Begins = λ k own next t. Begins k own next t;
  Goes = λ k turn next t. GoesOn (said_of k) turn.reply k next t;
  Sees = λ k e turn t. t ≡ k;
  texts = λ k. said_texts (said_of k);
  left = λ k. pieces_left (listing_of k) (said_of k);
}
