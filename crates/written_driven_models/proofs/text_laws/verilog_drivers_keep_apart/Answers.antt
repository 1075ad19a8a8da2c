use Rattle.written_driven_models.proofs.KeptApart.{kept_apart}
use Rattle.written_driven_models.specs.Verilog.{written_verilog, well_formed_verilog}
use Rattle.written_driven_models.proofs.VerilogPieces.{pieces}
use Rattle.written_driven_models.proofs.text_laws.verilog_drivers_keep_apart.Goals as goal

pub returns : goal.returns
returns c = λ xs h k. kept_apart written_verilog well_formed_verilog pieces xs h k
