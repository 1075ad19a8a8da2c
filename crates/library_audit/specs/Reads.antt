-- What stands once both files of a comparison are read.
use Rattle.std.specs.Prelude.{◌≡◌, All}
use Rattle.text_io.specs.Desk.{DeskState}
use Rattle.library_reader.specs.LibraryCells.{all_described}
use Rattle.specify_blocks.specs.declared.model.VModule.{VModule}
use Rattle.specify_blocks.specs.Sound.{IsSound}
use Rattle.file_models.specs.declared.file_model.FileModel.{FileModel}
use Rattle.run_outcome.specs.FilesRead.{HasRead}
use Rattle.model_files.specs.ModelNames.{model_names}
use Rattle.model_replay.specs.Verilog.{verilog}
use Rattle.library_audit.specs.declared.modules.NamedModules.{NamedModules}
use Rattle.library_audit.specs.declared.files.AuditFiles.{AuditFiles}
use Rattle.library_audit.specs.Outcome.{audit_files, audit_of, audits_outcome}

-- Models of a file with their names, where each module is sound.
pub record AreReady (named : NamedModules) : Type 0 where
  pub names : named.names ≡ model_names verilog named.models
  pub sound : All (λ (model : FileModel VModule). IsSound model.core) named.models

-- The library and the Verilog file were read. Nothing was appended, and where the desk tells the files the run comes to these
-- cells beside these models.
pub record ReadsFiles (old new : DeskState) (read : AuditFiles) : Type 0 where
  pub files :
      HasRead audit_files audit_files (audit_of old.words) (λ _. audits_outcome (all_described read.cells) read.named.models) old
      new
  pub ready : AreReady read.named
