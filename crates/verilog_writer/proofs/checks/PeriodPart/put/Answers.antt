use Rattle.verilog_writer.specs.Timing.{period_line, period_text}
use Rattle.verilog_writer.proofs.checks.PeriodPart.put.Goals as goal

pub returns-clause-text : goal.returns-clause-text
unfolding period_text period_line
returns-clause-text g c = rw (← c.port_at-port.ensures) c.put.ensures.text
