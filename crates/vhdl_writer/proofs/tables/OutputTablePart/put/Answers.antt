use Rattle.vhdl_writer.specs.Tables.{output_table_text}
use Rattle.vhdl_writer.proofs.tables.OutputTablePart.put.Goals as goal

pub returns-clause-text : goal.returns-clause-text
unfolding output_table_text
returns-clause-text g c = rw (← c.table_number-number.ensures) c.put.ensures.text
