use Rattle.row_selection.proofs.SelectionLemmas.{selected-decide}
use Rattle.row_selection.proofs.laws.selected_rows_decide.Goals as goal

pub returns : goal.returns
returns c = selected-decide
