use Rattle.cell_tables.proofs.LawLemmas.{forms_agree_at_notifier-lem}
use Rattle.cell_tables.proofs.laws.forms_agree_at_notifier.Goals as goal

pub returns : goal.returns
returns c = forms_agree_at_notifier-lem
