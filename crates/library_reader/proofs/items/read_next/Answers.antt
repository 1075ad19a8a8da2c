use Rattle.run_outcome.proofs.WrittenLaws.{stopped_before, all_ended, stopped, IsPart-all}
use Rattle.library_reader.proofs.items.read_next.Goals as goal

pub returns-in_err-next-clause-text : goal.returns-in_err-next-clause-text
returns-in_err-next-clause-text g c = stopped_before _ _ _ c.from_residual.ensures.0

pub returns-in_err-write_cell-clause-text : goal.returns-in_err-write_cell-clause-text
returns-in_err-write_cell-clause-text g c = all_ended _ _ _ _ _ c.in_err-write_cell.ensures.text c.from_residual-in_err-write_cell.ensures.0

pub returns-in_err-count_cell-clause-text : goal.returns-in_err-count_cell-clause-text
returns-in_err-count_cell-clause-text g c =
    stopped _ _ _ _ _ c.from_residual-in_err-count_cell.ensures.0 (IsPart-all _) c.in_ok-write_cell.ensures.text.whole
