use Rattle.translate_cmd.proofs.Agreement.{own_models_agree}
use Rattle.translate_cmd.proofs.laws.own_models_agree.Goals as goal

pub returns : goal.returns
returns c = own_models_agree
