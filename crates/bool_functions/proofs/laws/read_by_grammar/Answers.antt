use Rattle.bool_functions.proofs.Readings.{reading_tree, tree_reading, reading_fault, fault_reading}
use Rattle.bool_functions.proofs.laws.read_by_grammar.Goals as goal

pub returns : goal.returns
returns c names text =
    (λ f. (reading_tree names text f, tree_reading names text f), λ e. (reading_fault names text e, fault_reading names text e))
