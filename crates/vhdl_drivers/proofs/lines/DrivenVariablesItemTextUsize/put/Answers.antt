use Rattle.vhdl_drivers.proofs.lines.DrivenVariablesItemTextUsize.put.Goals as goal

pub returns-clause-text : goal.returns-clause-text
returns-clause-text g c = rw (c.has_own.ensures) at c.put.ensures.text
