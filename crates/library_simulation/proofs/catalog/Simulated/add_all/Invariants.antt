use Rattle.std.proofs.Common.{◌≡◌, take}
use Rattle.bool_functions.specs.NameList.{AreDistinct}
use Rattle.library_reader.specs.LibraryCells.{cell_names, all_described}
use Rattle.library_simulation.specs.NamedModels.{shown}
use Rattle.library_simulation.specs.Catalog.{simulated_in}
use Rattle.library_simulation.proofs.catalog.Simulated.add_all.Given as goal

abbrev pub invariant-loop-cell : goal.invariant-loop-cell
invariant-loop-cell l = record {
  listed : AreDistinct (cell_names (all_described l.cells)) → l.self ≡ simulated_in (shown l.files) (take l.cell-index (all_described l.cells));
}
