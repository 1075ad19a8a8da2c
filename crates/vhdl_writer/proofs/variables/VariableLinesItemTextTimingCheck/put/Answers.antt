use Rattle.vhdl_writer.specs.Declarations.{check_variables_text}
use Rattle.vhdl_writer.proofs.variables.VariableLinesItemTextTimingCheck.put.Goals as goal

pub returns-clause-text : goal.returns-clause-text
unfolding check_variables_text
returns-clause-text g c = rw (← c.data_text.ensures) c.put.ensures.text
