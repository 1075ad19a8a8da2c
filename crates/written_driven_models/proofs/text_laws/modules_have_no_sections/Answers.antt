use Rattle.written_driven_models.proofs.KeptApart.{no_sections}
use Rattle.written_driven_models.specs.Verilog.{written_verilog, well_formed_verilog}
use Rattle.written_driven_models.proofs.VerilogPieces.{pieces}
use Rattle.written_driven_models.proofs.text_laws.modules_have_no_sections.Goals as goal

pub returns : goal.returns
returns c = λ ms h. no_sections written_verilog well_formed_verilog pieces ms h
