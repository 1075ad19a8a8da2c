use Rattle.written_driven_models.proofs.VhdlSections.{read_back}
use Rattle.written_driven_models.proofs.text_laws.vital_drivers_read_back.Goals as goal

pub returns : goal.returns
returns c = λ names cores d h. read_back names cores d h
