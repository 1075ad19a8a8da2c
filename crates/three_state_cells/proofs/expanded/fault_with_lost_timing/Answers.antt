use Rattle.three_state_cells.proofs.ReadLemmas.{refused_by}
use Rattle.three_state_cells.proofs.expanded.fault_with_lost_timing.Goals as goal

pub with_lost_timing-requires-clause-told : goal.with_lost_timing-requires-clause-told
with_lost_timing-requires-clause-told c = (c.args.source.earlier.now, rw c.in-Refused.is at c.requires.told)

pub returns-in-Ok : goal.returns-in-Ok
returns-in-Ok c =
    refused_by c.args.source.types.now c.args.source.cell.now c.args.source.unit c.args.core.now c.requires.core c.args.source.earlier.now c.in-Refused.refusal c.in-Ok.refusal
    (rw c.in-Refused.is at c.requires.told) c.in-Ok.ensures
