use Rattle.bool_functions.specs.Token.{symbols}
use Rattle.bool_functions.proofs.Complete.{text_tree}
use Rattle.bool_functions.proofs.laws.one_tree.Goals as goal

pub returns : goal.returns
returns c names text f g t u = text_tree (symbols names text) f g t.tree u.tree
