use Rattle.std.proofs.Common.{◌∙◌}
use Rattle.cell_machine.specs.CellData.{data_of}
use Rattle.scan_cells.specs.Views.{view_data}
use Rattle.scan_cells.specs.Comparison.{group_difference}
use Rattle.scan_cells.proofs.group_steps.group_difference.Goals as goal

pub returns : goal.returns
returns c =
    c.difference.ensures
    ∙ (λ i. group_difference (data_of (c.of.ensures.cell i)) (view_data (c.of.ensures.view i)) (c.of.ensures.group i))
