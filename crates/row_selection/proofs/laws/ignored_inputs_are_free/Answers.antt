use Rattle.row_selection.proofs.IgnoredInputs.{ignored-free}
use Rattle.row_selection.proofs.laws.ignored_inputs_are_free.Goals as goal

pub returns : goal.returns
returns c = ignored-free
