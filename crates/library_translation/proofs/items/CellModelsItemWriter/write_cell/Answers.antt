use Rattle.library_translation.proofs.StoppedWrites.{report_written, cause_kept}
use Rattle.library_translation.proofs.CellLemmas.{accepted_of, refused_of, accepted_written_as, refused_written_as}
use Rattle.library_translation.proofs.ItemsLemmas.{models_bound}
use Rattle.library_translation.proofs.items.CellModelsItemWriter.write_cell.Goals as goal

pub write_accepted-requires : goal.write_accepted-requires
write_accepted-requires g c = models_bound _ c.requires.bound

pub returns-in-Accepted-clause-text : goal.returns-in-Accepted-clause-text
returns-in-Accepted-clause-text g c =
    let accepted = accepted_of c.args.progress.now c.args.group.now _ c.in-Accepted.cell c.in-Accepted.entity c.in-Accepted.is c.requires.next.is in
    let same = accepted_written_as c.args.progress.now c.args.group.now c.in-Accepted.cell c.in-Accepted.entity accepted in
    rw same at (rw c.as_slice.ensures at c.write_accepted.ensures.text)

pub returns-in-Refused-clause-text : goal.returns-in-Refused-clause-text
returns-in-Refused-clause-text g c =
    let refused = refused_of c.args.progress.now c.args.group.now _ c.in-Refused.refusal c.in-Refused.is c.requires.next.is in
    let same = refused_written_as c.args.progress.now c.args.group.now _ _ _ c.next_number-number.ensures c.cell_name.ensures refused in
    rw same at (report_written _ _ _ _ _ c.stopped.ensures c.write_refused_cell.ensures.text)

pub returns-in-Refused-clause-cause : goal.returns-in-Refused-clause-cause
returns-in-Refused-clause-cause g c = cause_kept _ _ _ _ c.stopped.ensures c.write_refused_cell.ensures.cause
