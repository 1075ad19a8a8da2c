use Rattle.cell_machine.proofs.StillLemmas.{fewer_unknowns-lem}
use Rattle.cell_machine.proofs.laws.fewer_unknowns_keep_outputs.Goals as goal

pub returns : goal.returns
returns c = fewer_unknowns-lem
