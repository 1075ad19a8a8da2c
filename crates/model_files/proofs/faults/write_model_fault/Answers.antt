use Rattle.model_files.specs.FaultLines.{model_fault_line}
use Rattle.model_files.proofs.faults.write_model_fault.Goals as goal

pub returns-clause-text : goal.returns-clause-text
unfolding model_fault_line
returns-clause-text g c = rw (c.word.ensures, c.word_of_fault.ensures, c.place_of_fault.ensures) at c.write_part.ensures.text
