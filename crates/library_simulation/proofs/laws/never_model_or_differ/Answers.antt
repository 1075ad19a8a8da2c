use Rattle.library_simulation.proofs.EqualEnds.{never_model_or_differ}
use Rattle.library_simulation.proofs.laws.never_model_or_differ.Goals as goal

pub returns : goal.returns
returns c = never_model_or_differ
