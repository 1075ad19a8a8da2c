use Rattle.vhdl_drivers.proofs.ListedInputs.{inputs_listed}
use Rattle.vhdl_drivers.proofs.inputs.NextInputsPart.put.Goals as goal

pub returns-clause-text : goal.returns-clause-text
returns-clause-text g c = rw (← inputs_listed c.args.self.now.0.now) c.put.ensures.text
