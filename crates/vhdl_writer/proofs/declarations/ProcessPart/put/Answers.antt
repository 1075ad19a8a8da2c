use Rattle.vhdl_writer.specs.Declarations.{process_text}
use Rattle.vhdl_writer.proofs.declarations.ProcessPart.put.Goals as goal

pub returns-clause-text : goal.returns-clause-text
unfolding process_text
returns-clause-text g c = rw (← c.as_slice-items.ensures) (rw (← c.first_input-first.ensures) (rw (← c.signals_end.ensures) c.put.ensures.text))
