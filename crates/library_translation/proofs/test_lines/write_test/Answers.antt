use Rattle.std.proofs.Common.{Err, refl, sym, ap, ◌∙◌}
use Rattle.std.specs.Option.{option_copied}
use Rattle.three_state_cells.specs.DrivenCells.{driven_data_of}
use Rattle.text_io.specs.declared.stop.Stop.TheVariants.{Memory}
use Rattle.run_outcome.proofs.WrittenLaws.{stopped_before}
use Rattle.library_translation.proofs.StoppedWrites.{report_written, cause_kept}
use Rattle.library_translation.proofs.TestLineTexts.{none_whole, line_as}
use Rattle.library_translation.proofs.test_lines.write_test.Goals as goal

pub returns-in_default-clause-text : goal.returns-in_default-clause-text
returns-in_default-clause-text g c =
    none_whole _ (driven_data_of c.args.cell.now) c.args.group.now (sym c.test_of.ensures ∙ ap option_copied c.in_default.is)

pub returns-in-Ok-clause-text : goal.returns-in-Ok-clause-text
returns-in-Ok-clause-text g c =
    rw (line_as (driven_data_of c.args.cell.now) c.args.group.now c.in-Some.test.now c.in-Ok.found (sym c.test_of.ensures ∙ ap option_copied c.in-Some.is) c.in-Ok.ensures)
    at (report_written _ _ _ _ _ c.stopped.ensures c.write_agreement.ensures.text)

pub returns-in-Ok-clause-cause : goal.returns-in-Ok-clause-cause
returns-in-Ok-clause-cause g c = cause_kept _ _ _ _ c.stopped.ensures c.write_agreement.ensures.cause

pub returns-in-Err-clause-text : goal.returns-in-Err-clause-text
returns-in-Err-clause-text g c = stopped_before {T = Unit {0}} _ _ (Err Memory) refl
