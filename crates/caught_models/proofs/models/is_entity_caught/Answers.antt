use Rattle.cell_machine.specs.CellData.{data_of}
use Rattle.caught_models.proofs.Machines.{same-machine}
use Rattle.caught_models.proofs.models.is_entity_caught.Goals as goal

pub returns : goal.returns
returns c = same-machine c.is_caught.result (data_of c.args.cell.now) c.args.changes.now _ _ c.in_ok-vital.ensures.machine c.is_caught.ensures
