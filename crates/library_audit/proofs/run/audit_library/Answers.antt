use Rattle.library_reader.specs.LibraryCells.{all_described}
use Rattle.run_outcome.proofs.FailureLaws.{ends_by_comparing}
use Rattle.library_audit.proofs.ReadFiles.{printed_runs}
use Rattle.library_audit.proofs.run.audit_library.Goals as goal

pub write_cells-requires : goal.write_cells-requires
write_cells-requires g c = c.in-Ok.ensures.read.ready

pub returns-in-Ok-clause-writes : goal.returns-in-Ok-clause-writes
returns-in-Ok-clause-writes g c =
    let files = c.in-Ok.files in
    printed_runs (g.D.Desk.state c.args.desk.now) (g.D.Desk.state c.read_files.new.desk) (g.D.Desk.state c.write_cells.new.desk) (all_described files.cells) files.named.models
    c.write_cells.result c.compared_status.result c.in-Ok.ensures.read.files c.write_cells.ensures.text c.write_cells.ensures.differs c.compared_status.ensures

pub returns-in-Ok-clause-cause : goal.returns-in-Ok-clause-cause
returns-in-Ok-clause-cause g c = ends_by_comparing _ _ _ _ _ c.in-Ok.ensures.kept c.write_cells.ensures.cause c.compared_status.ensures
