use Rattle.library_reader.proofs.CellLemmas.{accepted_next}
use Rattle.library_reader.proofs.next.next_cell.Goals as goal

pub returns-in_ok-entity-in-Ok-clause-next : goal.returns-in_ok-entity-in-Ok-clause-next
returns-in_ok-entity-in-Ok-clause-next c =
    accepted_next c.args.progress.now c.args.group.now c.in-Ok.cell _ c.in-Ok.ensures.cell c.in-Ok.ensures.accepted c.in_ok-entity-in-Ok.ensures

pub returns-in-Err-Refused-clause-next : goal.returns-in-Err-Refused-clause-next
returns-in-Err-Refused-clause-next c =
    rw c.in-Err-Refused.field-0-is (rw c.in-Err-Refused.field-0-is at c.in-Err-Refused.ensures.refused)
