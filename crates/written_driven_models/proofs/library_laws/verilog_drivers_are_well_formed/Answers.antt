use Rattle.written_driven_models.proofs.VerilogDrivers.{verilog_drivers_are_well_formed}
use Rattle.written_driven_models.proofs.library_laws.verilog_drivers_are_well_formed.Goals as goal

pub returns : goal.returns
returns c = verilog_drivers_are_well_formed
