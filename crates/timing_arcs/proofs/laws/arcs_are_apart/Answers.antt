use Rattle.timing_arcs.proofs.LawLemmas.{arcs_are_apart as law}
use Rattle.timing_arcs.proofs.laws.arcs_are_apart.Goals as goal

pub returns : goal.returns
returns c = law
