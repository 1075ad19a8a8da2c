use Rattle.translate_cmd.proofs.WrittenTexts.{verilog-of-modules}
use Rattle.translate_cmd.proofs.laws.verilog_is_of_modules.Goals as goal

pub returns : goal.returns
returns c = verilog-of-modules
