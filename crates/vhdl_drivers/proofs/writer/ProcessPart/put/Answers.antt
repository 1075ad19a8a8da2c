use Rattle.vhdl_drivers.specs.DriverText.{process_text}
use Rattle.vhdl_drivers.proofs.writer.ProcessPart.put.Goals as goal

pub returns-clause-text : goal.returns-clause-text
unfolding process_text
returns-clause-text g c = rw (← c.len-count.ensures) (rw (← c.as_slice.ensures) c.put.ensures.text)
