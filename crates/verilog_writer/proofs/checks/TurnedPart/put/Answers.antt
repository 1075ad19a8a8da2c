use Rattle.verilog_writer.specs.Timing.{turned_text}
use Rattle.verilog_writer.proofs.checks.TurnedPart.put.Goals as goal

pub returns-clause-text : goal.returns-clause-text
unfolding turned_text
returns-clause-text g c = rw (← c.joint_text.ensures) (rw (← c.condition_text.ensures) c.put.ensures.text)
