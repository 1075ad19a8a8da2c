use Rattle.timing_arcs.proofs.LawLemmas.{timings_are_placed as law}
use Rattle.timing_arcs.proofs.laws.timings_are_placed.Goals as goal

pub returns : goal.returns
returns c = law
