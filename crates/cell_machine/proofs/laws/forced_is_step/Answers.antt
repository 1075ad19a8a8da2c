use Rattle.cell_machine.proofs.ForcedLemmas.{forced_is_step-lem}
use Rattle.cell_machine.proofs.laws.forced_is_step.Goals as goal

pub returns : goal.returns
returns c = forced_is_step-lem
