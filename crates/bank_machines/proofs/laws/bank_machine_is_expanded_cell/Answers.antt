use Rattle.bank_machines.proofs.Machines.{machines_are}
use Rattle.bank_machines.proofs.laws.bank_machine_is_expanded_cell.Goals as goal

pub returns : goal.returns
returns c = machines_are
