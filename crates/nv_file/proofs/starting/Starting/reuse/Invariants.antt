use Rattle.std.proofs.Common.{◌≡◌, length}
use Rattle.std.specs.List.{All}
use Rattle.nv_model.specs.Meters.{unharmed}
use Rattle.nv_file.specs.Files.{unsynced, nothing_unsynced}
use Rattle.nv_file.specs.contracts.file.FileNvNv.TheImpl.{ghosts}
use Rattle.nv_file.proofs.starting.Starting.reuse.Given as goal

abbrev pub invariant-loop-file : goal.invariant-loop-file
invariant-loop-file g l = record {
  count : length l.stores.items ≡ l.file-index;
  unharmed : All (λ nv. ghosts.meters nv ≡ unharmed) l.stores.items;
  synced : All (λ nv. unsynced nv ≡ nothing_unsynced) l.stores.items;
}
