use Rattle.library_reader.specs.LibraryCells.{all_described}
use Rattle.run_outcome.proofs.FileStepLaws.{err_is}
use Rattle.library_audit.proofs.ReadFiles.{verilog_planned, cells_read, models_read, modules_sound, library_ends, verilog_ends}
use Rattle.library_audit.proofs.ReadFiles.{no_memory, ended_as}
use Rattle.library_audit.proofs.files.read_files.Goals as goal

pub read_model_file-requires : goal.read_model_file-requires
read_model_file-requires g c = let cells = all_described c.in_ok-cells.cells.items in verilog_planned _ _ cells (cells_read _ _ cells c.in_ok-cells.ensures.ok) c.requires

pub returns-in_err-cells-clause-ended : goal.returns-in_err-cells-clause-ended
returns-in_err-cells-clause-ended g c =
    err_is c.from_residual.result _ _ c.from_residual.ensures.1 (λ y is. ended_as _ _ y _ is (library_ends _ _ _ c.in_err-cells.ensures.err))

pub returns-in_err-models-clause-ended : goal.returns-in_err-models-clause-ended
returns-in_err-models-clause-ended g c =
    let cells = all_described c.in_ok-cells.cells.items in
    err_is c.from_residual-in_err-models.result _ _ c.from_residual-in_err-models.ensures.1
    (λ y is. ended_as _ _ y _ is
    (verilog_ends _ _ _ cells _ (cells_read _ _ cells c.in_ok-cells.ensures.ok) c.in_err-models.ensures.err))

pub returns-in_err-names-clause-ended : goal.returns-in_err-names-clause-ended
returns-in_err-names-clause-ended g c =
    let cells = all_described c.in_ok-cells.cells.items in
    let models = c.in_ok-models.models.items in
    err_is c.from_residual-in_err-names.result _ _ c.from_residual-in_err-names.ensures.1
    (λ y is. no_memory _ _ cells models y (models_read _ _ _ cells models (cells_read _ _ cells c.in_ok-cells.ensures.ok) c.in_ok-models.ensures.ok) is)

pub returns-clause-read : goal.returns-clause-read
returns-clause-read g c =
    let cells = all_described c.in_ok-cells.cells.items in
    rw (c.from_vec.ensures, c.from_vec-2.ensures) (record {
      files = models_read _ _ _ cells _ (cells_read _ _ cells c.in_ok-cells.ensures.ok) c.in_ok-models.ensures.ok;
      ready = record {
        names = (rw c.as_slice.ensures.value at c.in_ok-names.ensures) c.in_ok-models.ensures.own;
        sound = modules_sound _ c.in_ok-models.ensures.well_formed;
      };
    })
