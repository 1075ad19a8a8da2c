use Rattle.generated_entities.proofs.Entities.{entity-well-formed}
use Rattle.generated_entities.proofs.laws.entity_is_well_formed.Goals as goal

pub returns : goal.returns
returns c = entity-well-formed
