-- What the comparison of a library with a Verilog file says. This project's promise.
use Rattle.std.specs.Prelude.{◌≡◌, ◌↔◌, ℕ, false, All, List, Some, Ok}
use Rattle.cell_machine.specs.CellData.{CellData}
use Rattle.three_state_cells.specs.DrivenCells.{DrivenData, may_float}
use Rattle.library_reader.specs.LibraryCells.{CellEntry, Accepted, Refused}
use Rattle.specify_blocks.specs.declared.model.VModule.{VModule}
use Rattle.file_models.specs.declared.file_model.FileModel.{FileModel}
use Rattle.run_outcome.specs.declared.status.Status.TheVariants.{Done}
use Rattle.library_reader.specs.LibraryAnswer.{library_answer}
use Rattle.model_files.specs.ModelAnswer.{model_answer}
use Rattle.model_replay.specs.Verilog.{verilog}
use Rattle.table_audit.specs.declared.verdicts.Verdict.TheVariants.{Same}
use Rattle.table_audit.specs.Matches.{Matches}
use Rattle.library_audit.specs.Lines.{audit_line}
use Rattle.library_audit.specs.Audits.{module_for, audit_text}
use Rattle.library_audit.specs.Outcome.{audit_outcome}

-- a cell has a module with its name among these models of a file, and the module matches it
pub record HasMatch (models : List (FileModel VModule)) (cell : CellData) : Type 0 where
  pub model : VModule
  pub found : module_for models cell ≡ Some model
  pub matches : Matches cell model

-- so a cell has that is accepted, where none of its outputs may float
abbrev pub HasMatchOrIsLeftOut : List (FileModel VModule) → CellEntry → Type 0
HasMatchOrIsLeftOut models (Accepted cell entity) = may_float cell ≡ false → HasMatch models cell.core
HasMatchOrIsLeftOut models (Refused name refusal) = Unit {0}

-- the line of a cell whose module is the same
abbrev pub same_line : ℕ → List ℕ → List ℕ
same_line number name = audit_line number name (Some Same)

-- None of a cell's outputs may float, and the cell has such a module.
pub record IsMatched (models : List (FileModel VModule)) (cell : DrivenData) : Type 0 where
  pub plain : may_float cell ≡ false
  pub has_match : HasMatch models cell.core

-- The line of an accepted cell is that line exactly where that is so.
abbrev pub SameLineIsMatch : Type 0
SameLineIsMatch =
    (models : List (FileModel VModule)) (cell : DrivenData) (entity : List ℕ)
    → (audit_text models (Accepted cell entity) ≡ same_line cell.core.number cell.name) ↔ IsMatched models cell

-- The library and the Verilog file are read, and this holds of the models of the file and of each cell.
pub record AllHold (Holds : List (FileModel VModule) → CellEntry → Type 0) (library text : List ℕ) : Type 0 where
  pub cells : List CellEntry
  pub are_cells : library_answer library ≡ Ok cells
  pub models : List (FileModel VModule)
  pub are_models : model_answer verilog text ≡ Ok models
  pub hold_all : All (Holds models) cells

-- They are read, and each accepted cell has such a module where none of its outputs may float.
abbrev pub AllMatch : List ℕ → List ℕ → Type 0
AllMatch = AllHold HasMatchOrIsLeftOut

-- A comparison is done exactly where that is so.
abbrev pub DoneIsMatch : Type 0
DoneIsMatch = (library text : List ℕ) → ((audit_outcome library text).status ≡ Done) ↔ AllMatch library text
