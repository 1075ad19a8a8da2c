use Rattle.cell_machine.proofs.TraceLemmas.{fronts-lem}
use Rattle.cell_machine.proofs.laws.fronts_have_fronts.Goals as goal

pub returns : goal.returns
returns c = fronts-lem
