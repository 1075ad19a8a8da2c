use Rattle.bank_machines.proofs.Cores.{accepted_run}
use Rattle.bank_machines.proofs.laws.accepted_cells_run_as_banks.Goals as goal

pub returns : goal.returns
returns c = accepted_run
