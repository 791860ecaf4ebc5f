use Rattle.std.proofs.Common.{rules}
use Rattle.nv_store.specs.Knows.{holds_shows}
use Rattle.nv_store.proofs.lent.mount_lent.Goals as goal

pub returns-in-Ok-Some : goal.returns-in-Ok-Some
returns-in-Ok-Some g c = record {
  size = search rules;
  of_size = search rules;
  mixed = search rules;
  mounts = search rules;
  holds = search rules;
  shows = λ tells.
      holds_shows {head = c.in-Ok-Some.head} {payload = c.settle.new.kept}
      (record { only = c.in-Ok-Some.ensures.alone tells; known = rw c.in-Ok-Some.field-0-is at (c.in-Ok-Some.ensures.known tells) });
  inside = search rules;
  causes = search rules;
  bytes = search rules;
}
