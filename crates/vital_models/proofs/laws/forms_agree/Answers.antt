use Rattle.vital_models.proofs.RowLawLemmas.{forms_agree-lem}
use Rattle.vital_models.proofs.laws.forms_agree.Goals as goal

pub returns : goal.returns
returns c = forms_agree-lem
