use Rattle.verilog_writer.specs.Primitive.{opening_text, port_text, header_text, output_text, input_text, table_text}
use Rattle.verilog_writer.specs.Primitive.{primitive_text}
use Rattle.verilog_writer.proofs.primitive.PrimitivePart.put.Goals as goal

pub returns-clause-text : goal.returns-clause-text
unfolding primitive_text output_text header_text opening_text port_text input_text table_text
returns-clause-text g c =
    rw (c.as_slice.ensures, c.as_slice-output.ensures, c.as_slice-inputs.ensures, c.as_slice-2.ensures) at c.put.ensures.text
