use Rattle.bus_texts.proofs.RewrittenTexts.{tree_replaced}
use Rattle.bus_texts.proofs.laws.rewritten_tree.Goals as goal

pub returns : goal.returns
returns c = tree_replaced
