use Rattle.vhdl_writer.specs.Tables.{truth_rows_text}
use Rattle.vhdl_writer.proofs.tables.TruthConstantPart.put.Goals as goal

pub returns-clause-text : goal.returns-clause-text
unfolding truth_rows_text
returns-clause-text g c = rw c.as_slice-items.ensures at c.put.ensures.text
