use Rattle.bool_functions.proofs.JoinedTexts.{symbols_word}
use Rattle.bool_functions.proofs.laws.word_texts.Goals as goal

pub returns : goal.returns
returns c = symbols_word
