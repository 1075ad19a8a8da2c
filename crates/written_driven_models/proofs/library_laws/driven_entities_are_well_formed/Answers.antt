use Rattle.written_driven_models.proofs.Together.{well_formed_together}
use Rattle.written_driven_models.proofs.library_laws.driven_entities_are_well_formed.Goals as goal

pub returns : goal.returns
returns c = λ cells h. well_formed_together cells h
