use Rattle.library_reader.specs.LibraryCells.{described, all_described}
use Rattle.library_simulation.specs.NamedModels.{shown}
use Rattle.library_simulation.proofs.CatalogLemmas.{listed_more}
use Rattle.library_simulation.proofs.DescribedCells.{below_described, item_described}
use Rattle.library_simulation.proofs.catalog.Simulated.add_all.Goals as goal

pub loop-cell-preserved : goal.loop-cell-preserved
loop-cell-preserved c = record {
  listed = listed_more (shown c.args.files.now) c.loop-cell.self c.add.new.self (all_described c.args.cells.now) c.loop-cell.cell-index (described c.cell-item.result)
      c.in_ok-entry.entry.ports c.in_ok-entry.entry.numbers
      (below_described c.args.cells.now c.loop-cell.cell-index c.loop-cell-test.true)
      (item_described c.args.cells.now c.loop-cell.cell-index c.cell-item.result c.loop-cell-test.true c.cell-item.is) c.loop-cell.invariant.listed
      (rw c.name.ensures at c.in_ok-add.ensures) c.in_ok-entry.ensures.ports c.in_ok-entry.ensures.numbers;
}
