use Rattle.vhdl_drivers.specs.DriverText.{drive_path_text}
use Rattle.vhdl_drivers.proofs.path_lists.PathAtPart.put.Goals as goal

pub returns-clause-text : goal.returns-clause-text
unfolding drive_path_text
returns-clause-text g c = rw (← c.apart.ensures) (rw (← c.saturating_sub.ensures) (rw (← c.input_name.ensures) c.put.ensures.text))
