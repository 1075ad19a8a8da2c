use Rattle.cell_machine.specs.CellData.{data_of}
use Rattle.step_tables.proofs.KeptLemmas.{points_are}
use Rattle.step_tables.proofs.group_points.group_points.Goals as goal

pub returns : goal.returns
returns c =
    points_are (data_of c.args.cell.now) c.args.group c.args.places c.low_point-low.result c.points_by.result c.requires.moves
    c.points_by.ensures c.low_point-low.ensures
