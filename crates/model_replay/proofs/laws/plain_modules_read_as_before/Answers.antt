use Rattle.verilog_drivers.specs.VerilogSections.{verilog_sections}
use Rattle.model_replay.proofs.TextAnswers.{plain_as_before}
use Rattle.model_replay.proofs.laws.plain_modules_read_as_before.Goals as goal

pub returns : goal.returns
returns c = plain_as_before verilog_sections
