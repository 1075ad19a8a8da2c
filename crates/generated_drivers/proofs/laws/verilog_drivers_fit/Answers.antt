use Rattle.generated_drivers.proofs.Fitting.{verilog_drivers_fit}
use Rattle.generated_drivers.proofs.laws.verilog_drivers_fit.Goals as goal

pub returns : goal.returns
returns c = verilog_drivers_fit
