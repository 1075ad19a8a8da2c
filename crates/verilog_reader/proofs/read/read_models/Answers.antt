use Rattle.verilog_reader.proofs.WellRead.{well_formed}
use Rattle.verilog_reader.proofs.read.read_models.Goals as goal

pub returns-clause-well_formed : goal.returns-clause-well_formed
returns-clause-well_formed c = well_formed c.args.text.now c.models_of.result c.models_of.ensures.modules
