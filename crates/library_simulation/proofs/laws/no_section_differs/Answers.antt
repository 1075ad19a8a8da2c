use Rattle.library_simulation.proofs.EqualTraces.{no_section_differs}
use Rattle.library_simulation.proofs.laws.no_section_differs.Goals as goal

pub returns : goal.returns
returns c = no_section_differs
