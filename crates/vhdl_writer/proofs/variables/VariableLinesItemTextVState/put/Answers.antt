use Rattle.vhdl_writer.specs.Declarations.{state_variables_text}
use Rattle.vhdl_writer.proofs.variables.VariableLinesItemTextVState.put.Goals as goal

pub returns-clause-text : goal.returns-clause-text
unfolding state_variables_text
returns-clause-text g c = rw (← c.as_slice.ensures) (rw (← c.width_of-width.ensures) c.put.ensures.text)
