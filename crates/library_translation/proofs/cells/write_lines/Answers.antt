use Rattle.text_io.proofs.Wrote.{goes_on, stops}
use Rattle.library_translation.specs.Cells.{accepted_lines}
use Rattle.library_translation.proofs.cells.write_lines.Goals as goal

pub returns-in_err-write_accepted_cell-clause-text : goal.returns-in_err-write_accepted_cell-clause-text
unfolding accepted_lines
returns-in_err-write_accepted_cell-clause-text g c =
    stops _ _ _ _ _ _ _ (rw c.as_slice.ensures at c.in_err-write_accepted_cell.ensures.text) c.from_residual.ensures.0

pub returns-clause-text : goal.returns-clause-text
unfolding accepted_lines
returns-clause-text g c =
    goes_on _ _ _ _ _ _ _ (rw c.as_slice.ensures at c.in_ok-write_accepted_cell.ensures.text.whole) (rw (c.as_slice-2.ensures, c.as_slice-3.ensures) at c.write_left_out_groups.ensures.text)
