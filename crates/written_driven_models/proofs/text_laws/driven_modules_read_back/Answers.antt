use Rattle.written_driven_models.proofs.KeptApart.{read_back}
use Rattle.written_driven_models.specs.Verilog.{written_verilog, well_formed_verilog}
use Rattle.written_driven_models.proofs.VerilogPieces.{pieces}
use Rattle.written_driven_models.proofs.text_laws.driven_modules_read_back.Goals as goal

pub returns : goal.returns
returns c = λ xs h k. read_back written_verilog well_formed_verilog pieces xs h k
