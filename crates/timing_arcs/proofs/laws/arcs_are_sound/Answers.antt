use Rattle.timing_arcs.proofs.LawLemmas.{arcs_are_sound as law}
use Rattle.timing_arcs.proofs.laws.arcs_are_sound.Goals as goal

pub returns : goal.returns
returns c = law
