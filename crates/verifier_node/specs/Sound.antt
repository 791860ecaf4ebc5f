-- Which change the verifier's storage has a cell for.
use Rattle.std.specs.Prelude.{◌<◌}
use Rattle.bench_base.specs.declared.sizes.TheConstants.{VERIFIER_CELLS}
use Rattle.verifier.specs.declared.acts.Change.{Change}
use Rattle.verifier.specs.Seen.{cell_of}

-- the cell of the change is there
abbrev pub HasCell : Change → Type 0
HasCell x = cell_of x < VERIFIER_CELLS
