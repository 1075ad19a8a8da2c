use Rattle.std.proofs.Common.{Err, refl}
use Rattle.text_io.specs.declared.stop.Stop.TheVariants.{Failed}
use Rattle.library_translation.specs.Cells.{accepted_written}
use Rattle.run_outcome.proofs.WrittenLaws.{all_stops, all_goes_on, report_stops, report_whole}
use Rattle.library_translation.proofs.cells.write_accepted.Goals as goal

pub returns-in_err-write_models-clause-text : goal.returns-in_err-write_models-clause-text
unfolding accepted_written
returns-in_err-write_models-clause-text g c =
    all_stops _ _ _ _ _ _ c.in_err-write_models.ensures.text c.from_residual.ensures.0

pub returns-in_err-write_lines-clause-text : goal.returns-in_err-write_lines-clause-text
unfolding accepted_written
returns-in_err-write_lines-clause-text g c =
    all_goes_on _ _ _ _ _ _ c.in_ok-write_models.ensures.text.whole
    (all_stops _ _ _ _ _ _ (report_stops {T = Unit {0}} _ _ _ _ (Err Failed) c.in_err-write_lines.ensures.text refl) c.from_residual-in_err-write_lines.ensures.0)

pub returns-clause-text : goal.returns-clause-text
unfolding accepted_written
returns-clause-text g c =
    all_goes_on _ _ _ _ _ _ c.in_ok-write_models.ensures.text.whole
    (all_goes_on _ _ _ _ _ _ (report_whole _ _ _ c.in_ok-write_lines.ensures.text.whole) c.write_test.ensures.text)
