use Rattle.cell_tables.proofs.LawLemmas.{forms_agree-lem}
use Rattle.cell_tables.proofs.laws.forms_agree.Goals as goal

pub returns : goal.returns
returns c = forms_agree-lem
