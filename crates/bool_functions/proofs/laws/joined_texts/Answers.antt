use Rattle.bool_functions.proofs.JoinedTexts.{symbols_append}
use Rattle.bool_functions.proofs.laws.joined_texts.Goals as goal

pub returns : goal.returns
returns c = symbols_append
