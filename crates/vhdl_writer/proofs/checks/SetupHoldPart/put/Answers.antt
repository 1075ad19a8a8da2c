use Rattle.vhdl_writer.specs.Statements.{setup_hold_text}
use Rattle.vhdl_writer.proofs.checks.SetupHoldPart.put.Goals as goal

pub returns-clause-text : goal.returns-clause-text
unfolding setup_hold_text
returns-clause-text g c = rw (← c.high_word.ensures) (rw (← c.low_word.ensures) c.put.ensures.text)
