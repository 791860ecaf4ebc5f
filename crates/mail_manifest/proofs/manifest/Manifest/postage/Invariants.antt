use Rattle.std.proofs.Common.{◌≡◌, ◌≤◌, ◌*◌, ◌^◌, take}
use Rattle.std.specs.Prelude.{sum_by}
use Rattle.mail_manifest.specs.Held.{listed}
use Rattle.mail_manifest.specs.Listings.{postage_of, ReadTo}
use Rattle.mail_manifest.proofs.manifest.Manifest.postage.Given as goal

abbrev pub invariant-loop-at : goal.invariant-loop-at
invariant-loop-at l = record {
  read : ReadTo l.at (listed l.self);
  summed : l.sum ≡ sum_by postage_of (take l.at (listed l.self).marks);
  few : l.sum ≤ l.at * 2 ^ 32;
}
