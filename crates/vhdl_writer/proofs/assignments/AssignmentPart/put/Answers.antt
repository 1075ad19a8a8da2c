use Rattle.vhdl_writer.specs.Assignments.{path_call_text, path_call_start_text, direct_text}
use Rattle.vhdl_writer.proofs.assignments.AssignmentPart.put.Goals as goal

pub returns-then-self-clause-text : goal.returns-then-self-clause-text
unfolding path_call_text path_call_start_text
returns-then-self-clause-text g c = rw (c.if-self.true) c.put.ensures.text

pub returns-else-self-clause-text : goal.returns-else-self-clause-text
unfolding direct_text
returns-else-self-clause-text g c = rw (c.if-self.false) c.put-else-self.ensures.text
