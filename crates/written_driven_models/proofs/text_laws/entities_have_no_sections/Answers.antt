use Rattle.written_driven_models.proofs.KeptApart.{no_sections}
use Rattle.written_driven_models.specs.Vital.{written_vital, well_formed_vital}
use Rattle.written_driven_models.proofs.VitalPieces.{pieces}
use Rattle.written_driven_models.proofs.text_laws.entities_have_no_sections.Goals as goal

pub returns : goal.returns
returns c = λ ms h. no_sections written_vital well_formed_vital pieces ms h
