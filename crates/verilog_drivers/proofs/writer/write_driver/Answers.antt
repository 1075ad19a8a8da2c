use Rattle.verilog_writer.specs.Model.{wire_text}
use Rattle.verilog_drivers.specs.DriverText.{driver_header_text, driver_declarations_text, core_text, drive_paths_text}
use Rattle.verilog_drivers.specs.DriverText.{driver_text}
use Rattle.verilog_drivers.proofs.writer.write_driver.Goals as goal

pub returns-clause-text : goal.returns-clause-text
unfolding driver_text driver_header_text driver_declarations_text core_text drive_paths_text wire_text
returns-clause-text g c =
    rw (c.as_slice.ensures, c.as_slice-ports.ensures, c.as_slice-drives.ensures, c.as_slice-paths.ensures) at c.write_part.ensures.text
