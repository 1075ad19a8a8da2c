-- What can be compared is compared whole.
use Rattle.std.proofs.Common.{◌≡◌, ℕ, List, Ok, ap, ◌∙◌}
use Rattle.library_reader.specs.LibraryCells.{CellEntry}
use Rattle.specify_blocks.specs.declared.model.VModule.{VModule}
use Rattle.file_models.specs.declared.file_model.FileModel.{FileModel}
use Rattle.run_outcome.specs.FileSteps.{outcome_by}
use Rattle.library_reader.specs.LibraryAnswer.{library_answer}
use Rattle.model_files.specs.ModelAnswer.{model_answer}
use Rattle.model_replay.specs.Verilog.{verilog}
use Rattle.library_audit.specs.Outcome.{audits_outcome, behind_cells, audit_outcome}

-- two files that are read
pub audited_whole : (library text : List ℕ) (cells : List CellEntry) (models : List (FileModel VModule))
    → library_answer library ≡ Ok cells → model_answer verilog text ≡ Ok models
    → audit_outcome library text ≡ audits_outcome cells models
audited_whole library text cells models a b =
    ap (λ found. outcome_by 1 found (λ cells. behind_cells cells text)) a
    ∙ ap (λ found. outcome_by 2 found (λ models. audits_outcome cells models)) b
