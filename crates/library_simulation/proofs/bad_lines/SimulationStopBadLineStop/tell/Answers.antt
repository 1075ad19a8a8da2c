use Rattle.run_outcome.proofs.FailureLaws.{ends_by_writing}
use Rattle.run_outcome.proofs.FileStepLaws.{told_so}
use Rattle.library_reader.specs.LibraryCells.{all_described}
use Rattle.library_simulation.specs.FaultLines.{cause_stop}
use Rattle.library_simulation.proofs.BadLineEnds.{cause_is_plain}
use Rattle.library_simulation.proofs.bad_lines.SimulationStopBadLineStop.tell.Goals as goal

pub returns-clause-told : goal.returns-clause-told
returns-clause-told g c = told_so _ _ (cause_stop (all_described c.args.self.now.cells.now) c.args.line c.args.cause) c.write_cause.result _ c.write_cause.ensures.text (rw c.cause_status.ensures at c.ended.ensures)

pub returns-clause-cause : goal.returns-clause-cause
returns-clause-cause g c = ends_by_writing _ _ c.write_cause.result _ _ (cause_is_plain c.args.cause) c.write_cause.ensures.cause (rw c.cause_status.ensures at c.ended.ensures)
