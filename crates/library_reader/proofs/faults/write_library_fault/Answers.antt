use Rattle.library_reader.specs.FaultLines.{library_fault_line}
use Rattle.library_reader.proofs.faults.write_library_fault.Goals as goal

pub returns-clause-text : goal.returns-clause-text
unfolding library_fault_line
returns-clause-text g c = rw (c.fault_text.ensures, c.at.ensures) at c.write_part.ensures.text
