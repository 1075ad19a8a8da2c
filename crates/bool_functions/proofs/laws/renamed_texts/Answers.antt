use Rattle.bool_functions.proofs.RenamedTexts.{renamed_text}
use Rattle.bool_functions.proofs.laws.renamed_texts.Goals as goal

pub returns : goal.returns
returns c = renamed_text
