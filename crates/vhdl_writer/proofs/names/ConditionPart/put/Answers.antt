use Rattle.vhdl_writer.specs.Names.{condition_text, inputs_text}
use Rattle.vhdl_writer.proofs.names.ConditionPart.put.Goals as goal

pub returns-clause-text : goal.returns-clause-text
unfolding condition_text inputs_text
returns-clause-text g c = rw (← c.inputs_at.ensures) c.put.ensures.text
