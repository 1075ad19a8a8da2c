use Rattle.library_reader.specs.Endings.{library_limit}
use Rattle.library_reader.proofs.FoldLemmas.{folds_cells}
use Rattle.library_reader.proofs.fold.fold_cells.Goals as goal

pub returns-clause-cells : goal.returns-clause-cells
returns-clause-cells g c = folds_cells _ library_limit _ _ _ _ c.fold_items.ensures.items
