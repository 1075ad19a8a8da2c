use Rattle.std.proofs.Common.{ap, ◌∙◌}
use Rattle.text_io.specs.declared.slots.InSlot.TheVariants.{Library}
use Rattle.run_outcome.specs.Status.{is_decided}
use Rattle.run_outcome.proofs.FileStepLaws.{err_is, undecided_stop, bound_then, unbound_ends, unread_ends}
use Rattle.library_reader.specs.LibraryAnswer.{library_answer}
use Rattle.library_reader.proofs.LibraryFileLemmas.{cells_taken, told_ends}
use Rattle.library_reader.proofs.reading.read_library_file.Goals as goal

pub read_cells-requires : goal.read_cells-requires
read_cells-requires g c = bound_then _ _ Library c.in_ok-bind_in.ensures.ok.0 c.in_ok-bind_in.ensures.ok.2

pub returns-in_err-bind_in-clause-err : goal.returns-in_err-bind_in-clause-err
returns-in_err-bind_in-clause-err g c =
    err_is c.from_residual.result _ _ c.from_residual.ensures.1 (λ y is. unbound_ends library_answer _ _ Library c.args.place y c.in_err-bind_in.ensures.err (ap is_decided is))

pub returns-in-Ok-Ok-clause-ok : goal.returns-in-Ok-Ok-clause-ok
returns-in-Ok-Ok-clause-ok g c =
    let opening = c.in_ok-bind_in.ensures.ok in
    cells_taken _ _ _ c.args.place opening.0 c.in-Ok-Ok.cells opening.1 opening.2 (rw c.in-Ok-Ok.field-0-is at c.in-Ok-Ok.ensures.cells)

pub returns-in-Ok-Err-clause-err : goal.returns-in-Ok-Err-clause-err
returns-in-Ok-Err-clause-err g c =
    let opening = c.in_ok-bind_in.ensures.ok in
    told_ends _ _ _ _ c.args.place opening.0 c.in-Ok-Err.why _ opening.1 opening.2 (rw c.in-Ok-Err.field-0-is at c.in-Ok-Err.ensures.cells) c.tell_not_whole.ensures.text

pub returns-in-Err-clause-err : goal.returns-in-Err-clause-err
returns-in-Err-clause-err g c =
    let opening = c.in_ok-bind_in.ensures.ok in
    unread_ends library_answer _ _ _ Library c.args.place opening.0 c.in-Err.ensures.cells.taken _ opening.1 opening.2 c.in-Err.ensures.cells.state (ap is_decided c.from.ensures ∙ undecided_stop c.in-Err.stop)
