use Rattle.library_reader.specs.LibraryCells.{all_described}
use Rattle.library_simulation.proofs.SimulationFiles.{printed_runs}
use Rattle.run_outcome.proofs.FailureLaws.{ends_by_comparing}
use Rattle.library_simulation.proofs.run.simulate_library.Goals as goal

pub write_compared_sections-requires : goal.write_compared_sections-requires
write_compared_sections-requires g c = c.in-Ok.ensures.read.runs

pub returns-in-Ok-clause-writes : goal.returns-in-Ok-clause-writes
returns-in-Ok-clause-writes g c =
    let old = g.D.Desk.state c.args.desk.now in
    let now = g.D.Desk.state c.read_simulation.new.desk in
    let new = g.D.Desk.state c.write_compared_sections.new.desk in
    let read = c.in-Ok.simulation.read in
    printed_runs old now new (all_described read.cells) read.modules read.entities c.in-Ok.simulation.sections c.write_compared_sections.result c.compared_status.result
    c.in-Ok.ensures.read.files c.write_compared_sections.ensures.text c.write_compared_sections.ensures.differs c.compared_status.ensures

pub returns-in-Ok-clause-cause : goal.returns-in-Ok-clause-cause
returns-in-Ok-clause-cause g c = ends_by_comparing _ _ _ _ _ c.in-Ok.ensures.kept c.write_compared_sections.ensures.cause c.compared_status.ensures
