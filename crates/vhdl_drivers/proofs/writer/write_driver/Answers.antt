use Rattle.vhdl_drivers.specs.DriverText.{driver_header_text, signals_text, signal_text, core_text, statements_text, driver_text}
use Rattle.vhdl_drivers.proofs.writer.write_driver.Goals as goal

pub returns-clause-text : goal.returns-clause-text
unfolding driver_text driver_header_text signals_text signal_text core_text statements_text
returns-clause-text g c = rw (c.as_slice-drives.ensures, c.as_slice.ensures, c.as_slice-2.ensures) at c.write_part.ensures.text
