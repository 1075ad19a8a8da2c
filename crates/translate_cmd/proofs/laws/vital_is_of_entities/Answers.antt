use Rattle.translate_cmd.proofs.WrittenTexts.{vital-of-entities}
use Rattle.translate_cmd.proofs.laws.vital_is_of_entities.Goals as goal

pub returns : goal.returns
returns c = vital-of-entities
