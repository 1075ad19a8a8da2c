use Rattle.vhdl_writer.specs.Outputs.{path_text}
use Rattle.vhdl_writer.proofs.outputs.InEntityItemTextHPath.put.Goals as goal

pub returns-clause-text : goal.returns-clause-text
unfolding path_text
returns-clause-text g c = rw (← c.apart.ensures) (rw (← c.saturating_sub.ensures) (rw (← c.port_at.ensures) c.put.ensures.text))
