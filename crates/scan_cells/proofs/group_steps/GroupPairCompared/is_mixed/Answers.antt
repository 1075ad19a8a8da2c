use Rattle.cell_machine.specs.CellData.{data_of}
use Rattle.scan_cells.specs.Views.{view_data}
use Rattle.scan_cells.proofs.Halves.{outside_later}
use Rattle.scan_cells.proofs.MixedPoints.{mixed_steps}
use Rattle.scan_cells.proofs.group_steps.GroupPairCompared.is_mixed.Goals as goal

pub returns : goal.returns
returns c = λ mixed later has none.
    let self = c.args.self.now in
    mixed_steps (data_of self.cell.now) (view_data self.over.view.now) self.group later self.over.cell_mask self.over.view_mask self.over.places
    self.are_places self.is_cell_mask self.is_view_mask
    (outside_later c.args.point later self.over.cell_mask has (c.is_mixed.ensures.first mixed))
    (outside_later c.args.point later self.over.view_mask has (c.is_mixed.ensures.second mixed)) none
