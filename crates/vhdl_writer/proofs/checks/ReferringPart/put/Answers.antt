use Rattle.vhdl_writer.proofs.checks.ReferringPart.put.Goals as goal

pub returns-clause-text : goal.returns-clause-text
returns-clause-text g c = rw (← c.test_of-test.ensures) (rw (← c.reference_of-reference.ensures) (rw (← c.port_at.ensures) (rw (← c.port_at-2.ensures) c.put.ensures.text)))
