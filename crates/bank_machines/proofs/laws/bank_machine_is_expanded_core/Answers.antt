use Rattle.bank_machines.proofs.Cores.{cores_are}
use Rattle.bank_machines.proofs.laws.bank_machine_is_expanded_core.Goals as goal

pub returns : goal.returns
returns c = cores_are
