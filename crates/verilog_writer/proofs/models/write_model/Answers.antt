use Rattle.verilog_writer.specs.Timing.{block_text, lines_text}
use Rattle.verilog_writer.specs.Model.{module_opening_text, module_header_text, wire_text, declarations_text, module_only_text}
use Rattle.verilog_writer.specs.Model.{module_text}
use Rattle.verilog_writer.proofs.models.write_model.Goals as goal

pub returns-clause-text : goal.returns-clause-text
unfolding module_text module_only_text module_header_text module_opening_text declarations_text wire_text block_text lines_text
returns-clause-text g c =
    rw (c.as_slice.ensures, c.as_slice-ports.ensures, c.as_slice-2.ensures, c.as_slice-3.ensures, c.as_slice-4.ensures, c.as_slice-5.ensures, c.as_slice-6.ensures, c.has_block.ensures) at c.write_part.ensures.text
