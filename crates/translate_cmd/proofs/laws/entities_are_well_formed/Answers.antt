use Rattle.translate_cmd.proofs.AcceptedCells.{entities-well-formed}
use Rattle.translate_cmd.proofs.laws.entities_are_well_formed.Goals as goal

pub returns : goal.returns
returns c = entities-well-formed
