use Rattle.library_simulation.proofs.GeneratedModels.{own_models_show_the_same}
use Rattle.library_simulation.proofs.laws.own_models_show_the_same.Goals as goal

pub returns : goal.returns
returns c = own_models_show_the_same
