use Rattle.stimulus.proofs.Runs.{behind, stops_before}
use Rattle.stimulus.proofs.section.write_section.Goals as goal

pub returns-in_err-write_heading-clause-text : goal.returns-in_err-write_heading-clause-text
returns-in_err-write_heading-clause-text g c = stops_before _ _ _ _ _ _ c.in_err-write_heading.ensures.text c.from_residual.ensures.0

pub returns-clause-text : goal.returns-clause-text
returns-clause-text g c = behind _ _ _ _ _ _ c.in_ok-write_heading.ensures.text.whole c.write_trace.ensures.text
