-- What contracts see of the checker.
use Rattle.std.specs.Prelude.{Option}
use Rattle.mail_manifest.specs.Held.{listing_in}
use Rattle.mail_manifest.specs.Listings.{Listing}
use Rattle.mail_manifest.specs.declared.{checker.Checker.Checker, answer.Answer.Answer}

-- the manifest that was opened last
abbrev pub listing_of : Checker → Option Listing
listing_of k = listing_in k.manifest

-- what it answered last, or waits for
abbrev pub said_of : Checker → Answer
said_of k = k.said
