use Rattle.generated_entities.proofs.EntityLists.{entities-well-formed}
use Rattle.generated_entities.proofs.laws.entities_are_well_formed.Goals as goal

pub returns : goal.returns
returns c = entities-well-formed
