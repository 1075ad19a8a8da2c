use Rattle.vhdl_writer.specs.Declarations.{header_text}
use Rattle.vhdl_writer.proofs.declarations.HeaderPart.put.Goals as goal

pub returns-clause-text : goal.returns-clause-text
unfolding header_text
returns-clause-text g c = rw (c.as_slice.ensures, c.as_slice-ports.ensures) at c.put.ensures.text
