use Rattle.vhdl_drivers.specs.DriverText.{driven_line}
use Rattle.vhdl_drivers.proofs.lines.DrivenLinesItemTextUsize.put.Goals as goal

pub returns-clause-text : goal.returns-clause-text
unfolding driven_line
returns-clause-text g c =
    rw (c.has_own.ensures, c.output_name.ensures, c.as_slice-ports.ensures, c.as_slice.ensures, c.saturating_sub.ensures) at c.put.ensures.text
