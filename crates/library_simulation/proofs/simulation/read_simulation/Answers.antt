use Rattle.std.proofs.Common.{sym, subst, ◌∙◌}
use Rattle.text_io.specs.declared.slots.InSlot.TheVariants.{Stimulus}
use Rattle.library_reader.specs.LibraryCells.{all_described}
use Rattle.run_outcome.specs.Runs.{RunsAs}
use Rattle.run_outcome.specs.FileSteps.{FileIsTaken, FileEndsRun}
use Rattle.run_outcome.proofs.FileStepLaws.{err_is}
use Rattle.model_files.specs.StimulusAnswer.{stimulus_answer}
use Rattle.library_simulation.specs.FaultLines.{cause_stop}
use Rattle.library_simulation.specs.Simulate.{simulate_files, model_files, simulate_of}
use Rattle.library_simulation.specs.Simulations.{ReadsSimulation}
use Rattle.library_simulation.proofs.SimulationFiles.{still_planned, has_stimulus, no_memory, stimulus_stops, simulation_read}
use Rattle.library_simulation.proofs.simulation.read_simulation.Goals as goal

pub read_stimulus_file-requires : goal.read_stimulus_file-requires
read_stimulus_file-requires g c = still_planned model_files _ _ _ _ c.in_ok-read.ensures.read.files c.requires has_stimulus

pub returns-in_err-simulated-clause-ended : goal.returns-in_err-simulated-clause-ended
returns-in_err-simulated-clause-ended g c =
    let read = c.in_ok-read.read in
    err_is c.from_residual-in_err-simulated.result _ _ c.from_residual-in_err-simulated.ensures.1
    (λ y is. no_memory (g.D.Desk.state c.args.desk.now) (g.D.Desk.state c.read_cells_and_models.new.desk) (all_described read.cells) read.modules read.entities y
    c.in_ok-read.ensures.read.files (is ∙ c.in_err-simulated.ensures.memory))

pub returns-in_err-sections-clause-ended : goal.returns-in_err-sections-clause-ended
returns-in_err-sections-clause-ended g c =
    let old = g.D.Desk.state c.args.desk.now in
    let now = g.D.Desk.state c.read_cells_and_models.new.desk in
    let new = g.D.Desk.state c.read_stimulus_file.new.desk in
    let simulated = c.in_ok-simulated.simulated in
    let status = c.in_err-sections.field-0.0 in
    let ends =
    subst (λ cells. FileEndsRun (stimulus_answer (cause_stop (all_described cells)) simulated.catalog) now new Stimulus 4 status) c.as_slice.ensures
    c.in_err-sections.ensures.err in
    err_is c.from_residual-in_err-sections.result _ _ c.from_residual-in_err-sections.ensures.1
    (λ y is. subst (RunsAs simulate_files (simulate_of old.words) old new) (sym is)
    (stimulus_stops old now new c.in_ok-read.read simulated status c.in_ok-read.ensures.read (c.in_ok-simulated.ensures.catalog c.in_ok-read.ensures.read.own) ends))

pub returns-clause-read : goal.returns-clause-read
returns-clause-read g c =
    let old = g.D.Desk.state c.args.desk.now in
    let now = g.D.Desk.state c.read_cells_and_models.new.desk in
    let new = g.D.Desk.state c.read_stimulus_file.new.desk in
    let read = c.in_ok-read.read in
    let simulated = c.in_ok-simulated.simulated in
    let sections = c.in_ok-sections.sections.items in
    let stimulus = c.in_ok-sections.ensures.read in
    let taken =
    subst (λ cells. FileIsTaken (stimulus_answer (cause_stop (all_described cells)) simulated.catalog) now new Stimulus 4 sections) c.as_slice.ensures
    c.in_ok-sections.ensures.ok in
    subst (λ found. ReadsSimulation old new (record { read = read; simulated = simulated; sections = found })) (sym c.from_vec.ensures)
    (simulation_read old now new read simulated sections stimulus.0 c.sections_can_be_compared.ensures c.in_ok-read.ensures.read
    (c.in_ok-simulated.ensures.catalog c.in_ok-read.ensures.read.own) taken stimulus.1)
