use Rattle.std.proofs.Common.{sym, subst}
use Rattle.run_outcome.specs.Runs.{RunsAs}
use Rattle.run_outcome.proofs.FileStepLaws.{err_is}
use Rattle.library_simulation.specs.Simulate.{simulate_files, simulate_of}
use Rattle.library_simulation.proofs.SimulationFiles.{one_file, two_files, still_planned, has_verilog, has_vital, cells_read}
use Rattle.library_simulation.proofs.SimulationFiles.{modules_read, entities_read, library_ends, verilog_ends, vital_ends}
use Rattle.library_simulation.proofs.SimulateLemmas.{own_names, modules_run, entities_run}
use Rattle.library_simulation.proofs.simulation.read_cells_and_models.Goals as goal

pub read_model_file-requires : goal.read_model_file-requires
read_model_file-requires g c = still_planned one_file _ _ _ _ (cells_read _ _ _ c.in_ok-cells.ensures.ok) c.requires has_verilog

pub read_model_file-requires-2 : goal.read_model_file-requires-2
read_model_file-requires-2 g c =
    still_planned two_files _ _ _ _ (modules_read _ _ _ _ _ (cells_read _ _ _ c.in_ok-cells.ensures.ok) c.in_ok-modules.ensures.ok) c.requires has_vital

pub returns-in_err-cells-clause-ended : goal.returns-in_err-cells-clause-ended
returns-in_err-cells-clause-ended g c =
    err_is c.from_residual.result _ _ c.from_residual.ensures.1
    (λ y is. subst (RunsAs simulate_files (simulate_of (g.D.Desk.state c.args.desk.now).words) (g.D.Desk.state c.args.desk.now) _) (sym is) (library_ends _ _ _ c.in_err-cells.ensures.err))

pub returns-in_err-modules-clause-ended : goal.returns-in_err-modules-clause-ended
returns-in_err-modules-clause-ended g c =
    err_is c.from_residual-in_err-modules.result _ _ c.from_residual-in_err-modules.ensures.1
    (λ y is. subst (RunsAs simulate_files (simulate_of (g.D.Desk.state c.args.desk.now).words) (g.D.Desk.state c.args.desk.now) _) (sym is)
    (verilog_ends _ _ _ _ _ (cells_read _ _ _ c.in_ok-cells.ensures.ok) c.in_err-modules.ensures.err))

pub returns-in_err-entities-clause-ended : goal.returns-in_err-entities-clause-ended
returns-in_err-entities-clause-ended g c =
    err_is c.from_residual-in_err-entities.result _ _ c.from_residual-in_err-entities.ensures.1
    (λ y is. subst (RunsAs simulate_files (simulate_of (g.D.Desk.state c.args.desk.now).words) (g.D.Desk.state c.args.desk.now) _) (sym is)
    (vital_ends _ _ _ _ _ _ (modules_read _ _ _ _ _ (cells_read _ _ _ c.in_ok-cells.ensures.ok) c.in_ok-modules.ensures.ok) c.in_err-entities.ensures.err))

pub returns-clause-read : goal.returns-clause-read
returns-clause-read g c =
    let vhdl = c.in_ok-entities.ensures.text in
    rw (c.from_vec.ensures, c.from_vec-2.ensures, c.from_vec-3.ensures) (record {
      files = entities_read _ _ _ _ _ _ (modules_read _ _ _ _ _ (cells_read _ _ _ c.in_ok-cells.ensures.ok) c.in_ok-modules.ensures.ok) c.in_ok-entities.ensures.ok;
      own = own_names _ _ _ vhdl.0 c.entities_have_own_names.ensures c.in_ok-cells.ensures.own c.in_ok-modules.ensures.own vhdl.1 vhdl.2;
      modules = modules_run _ c.in_ok-modules.ensures.well_formed c.in_ok-modules.ensures.own;
      entities = entities_run _ c.in_ok-entities.ensures.well_formed c.in_ok-entities.ensures.own;
    })
