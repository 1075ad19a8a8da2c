use Rattle.vhdl_writer.specs.Outputs.{lookup_text}
use Rattle.vhdl_writer.specs.Names.{sources_text}
use Rattle.vhdl_writer.proofs.outputs.ValuePart.put.Goals as goal

pub returns-in-Table-clause-text : goal.returns-in-Table-clause-text
unfolding lookup_text sources_text
returns-in-Table-clause-text g c =
    rw (c.in-Table.is) (rw (c.table_number.ensures, c.as_slice.ensures) at c.put-in-Table.ensures.text)
