use Rattle.bool_functions.proofs.Bounds.{has_below, bound_least}
use Rattle.bool_functions.proofs.laws.bound_is_least.Goals as goal

pub returns : goal.returns
returns c f = (has_below f, bound_least f)
