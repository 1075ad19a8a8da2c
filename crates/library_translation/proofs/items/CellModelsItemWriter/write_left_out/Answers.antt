use Rattle.library_translation.proofs.StoppedWrites.{report_written, cause_kept}
use Rattle.library_translation.proofs.items.CellModelsItemWriter.write_left_out.Goals as goal

pub returns-clause-text : goal.returns-clause-text
returns-clause-text g c = report_written _ _ _ _ _ c.stopped.ensures c.write_left_out_file.ensures.text

pub returns-clause-cause : goal.returns-clause-cause
returns-clause-cause g c = cause_kept _ _ _ _ c.stopped.ensures c.write_left_out_file.ensures.cause
