use Rattle.translate_cmd.proofs.AcceptedCells.{modules-well-formed}
use Rattle.translate_cmd.proofs.laws.modules_are_well_formed.Goals as goal

pub returns : goal.returns
returns c = modules-well-formed
