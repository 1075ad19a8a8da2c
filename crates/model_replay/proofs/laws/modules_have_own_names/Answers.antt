use Rattle.model_replay.proofs.VerilogModels.{own_names}
use Rattle.model_replay.proofs.laws.modules_have_own_names.Goals as goal

pub returns : goal.returns
returns c = own_names
