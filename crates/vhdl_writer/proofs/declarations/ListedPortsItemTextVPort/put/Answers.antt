use Rattle.vhdl_writer.specs.Declarations.{port_text}
use Rattle.vhdl_writer.proofs.declarations.ListedPortsItemTextVPort.put.Goals as goal

pub returns-clause-text : goal.returns-clause-text
unfolding port_text
returns-clause-text g c = rw (← c.apart.ensures) (rw (← c.as_slice.ensures) (rw (← c.direction_text.ensures) c.put.ensures.text))
