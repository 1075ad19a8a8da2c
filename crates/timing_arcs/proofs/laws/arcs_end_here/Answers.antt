use Rattle.timing_arcs.proofs.LawLemmas.{arcs_end_here as law}
use Rattle.timing_arcs.proofs.laws.arcs_end_here.Goals as goal

pub returns : goal.returns
returns c = law
