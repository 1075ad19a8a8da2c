use Rattle.stimulus.proofs.BadLines.{causes_name_answers}
use Rattle.stimulus.proofs.laws.causes_name_answers.Goals as goal

pub returns : goal.returns
returns c = causes_name_answers
