use Rattle.vhdl_drivers.specs.VitalSections.{vital_sections}
use Rattle.model_replay.proofs.TextAnswers.{plain_as_before}
use Rattle.model_replay.proofs.laws.plain_entities_read_as_before.Goals as goal

pub returns : goal.returns
returns c = plain_as_before vital_sections
