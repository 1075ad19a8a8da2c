use Rattle.three_state_cells.proofs.read.core_fault.Goals as goal

pub decided-requires-clause-told : goal.decided-requires-clause-told
decided-requires-clause-told c = (c.args.earlier.now, rw c.in-Refused.is at c.requires.told)
