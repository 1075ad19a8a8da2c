use Rattle.vhdl_writer.specs.Statements.{period_pulse_text}
use Rattle.vhdl_writer.proofs.checks.PeriodPulsePart.put.Goals as goal

pub returns-clause-text : goal.returns-clause-text
unfolding period_pulse_text
returns-clause-text g c = rw (← c.port_at.ensures) (rw (← c.pulse_word.ensures) c.put.ensures.text)
