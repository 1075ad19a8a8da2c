use Rattle.bool_functions.specs.Token.{words}
use Rattle.bool_functions.proofs.Appearances.{same_names, distinct_appearances}
use Rattle.bool_functions.proofs.laws.own_names.Goals as goal

pub returns : goal.returns
returns c text = (distinct_appearances (words text), same_names (words text))
