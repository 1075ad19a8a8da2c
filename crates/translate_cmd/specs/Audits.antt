-- What a line `same` of a comparison of a library with a Verilog file promises. This project's promise.
use Rattle.std.specs.Prelude.{◌≡◌, ◌≢◌, List, [], ℕ, false, All, Some, Ok, if◌then◌else◌}
use Rattle.library_simulation.specs.file_models.cell_machine.declared.changes.Change.{Change}
use Rattle.library_simulation.specs.file_models.cell_machine.CellData.{CellData}
use Rattle.library_simulation.specs.file_models.cell_machine.History.{IsProper, IsProperFrom}
use Rattle.library_simulation.specs.file_models.cell_machine.CellTrace.{inputs_of, states_after, cell_trace}
use Rattle.written_driven_models.specs.specify_blocks.declared.model.VModule.{VModule}
use Rattle.model_traces.specs.ModuleRun.{run_after}
use Rattle.model_traces.specs.ModuleTrace.{module_trace}
use Rattle.model_traces.specs.SequentialStates.{sequential_states}
use Rattle.written_driven_models.specs.three_state_cells.DrivenCells.{DrivenData, may_float}
use Rattle.library_simulation.specs.file_models.declared.file_model.FileModel.{FileModel}
use Rattle.library_simulation.specs.library_reader.LibraryCells.{CellEntry, Accepted, Refused}
use Rattle.run_outcome.specs.declared.status.Status.TheVariants as status
use Rattle.run_outcome.specs.Outcome.{Outcome}
use Rattle.library_simulation.specs.library_reader.LibraryAnswer.{library_answer}
use Rattle.library_translation.specs.Library.{translate_outcome}
use Rattle.library_simulation.specs.model_files.ModelAnswer.{model_answer}
use Rattle.library_simulation.specs.Verilog.{verilog}
use Rattle.library_audit.specs.Lines.{left_out_line}
use Rattle.library_audit.specs.Audits.{module_for, audit_text}
use Rattle.library_audit.specs.Outcome.{audit_outcome}
use Rattle.library_audit.specs.Laws.{AllHold, same_line}

-- A cell has a module with its name among these models of a file, and the module shows what the cell shows: its trace is the
-- cell's for every list of changes of inputs at rising times, and the states of its primitives after each change are the cell's.
pub record AgreesWithModule (models : List (FileModel VModule)) (cell : CellData) : Type 0 where
  pub model : VModule
  pub found : module_for models cell ≡ Some model
  pub traces :
      (changes : List Change)
      → IsProperFrom (inputs_of cell) [] changes → module_trace model changes ≡ cell_trace cell changes
  pub states :
      (history : List Change)
      → IsProper (inputs_of cell) history
      → sequential_states model (run_after model history) ≡ states_after cell history

-- None of a cell's outputs may float, so that it is its own core, and it agrees with its module.
pub record IsPlainAndAgrees (models : List (FileModel VModule)) (cell : DrivenData) : Type 0 where
  pub plain : may_float cell ≡ false
  pub agrees : AgreesWithModule models cell.core

-- so it is with an accepted cell whose line says that its module is the same
abbrev pub AgreesWhereSame : List (FileModel VModule) → CellEntry → Type 0
AgreesWhereSame models (Accepted cell entity) =
    audit_text models (Accepted cell entity) ≡ same_line cell.core.number cell.name → IsPlainAndAgrees models cell
AgreesWhereSame models (Refused name refusal) = Unit {0}

-- so a cell does that is accepted, where none of its outputs may float
abbrev pub AgreesOrIsLeftOut : List (FileModel VModule) → CellEntry → Type 0
AgreesOrIsLeftOut models (Accepted cell entity) = may_float cell ≡ false → AgreesWithModule models cell.core
AgreesOrIsLeftOut models (Refused name refusal) = Unit {0}

-- The library and the Verilog file are read, and each accepted cell agrees with its module, where none of its outputs may float.
abbrev pub AllAgree : List ℕ → List ℕ → Type 0
AllAgree = AllHold AgreesOrIsLeftOut

-- Where a library is read as these cells and a Verilog file as these models, each accepted cell whose line says `same` agrees
-- with its module. Where the comparison is done, each accepted cell does none of whose outputs may float.
pub record AuditIsTrue (library text : List ℕ) : Type 0 where
  pub lines :
      (cells : List CellEntry) (models : List (FileModel VModule))
      → library_answer library ≡ Ok cells → model_answer verilog text ≡ Ok models → All (AgreesWhereSame models) cells
  pub done : (audit_outcome library text).status ≡ status.Done → AllAgree library text

-- So it is for the bytes of every library and of every Verilog file.
abbrev pub AuditedCellsAgree : Type 0
AuditedCellsAgree = (library text : List ℕ) → AuditIsTrue library text

-- what comparing a library with the Verilog that translating it writes comes to
abbrev pub own_audit : List ℕ → Outcome
own_audit library = audit_outcome library (translate_outcome library).text.verilog

-- the line of a cell whose module is the same, or that is left out since some of its outputs may float
abbrev pub same_or_left_out : DrivenData → List ℕ
same_or_left_out cell = if may_float cell then left_out_line cell.core.number cell.name else same_line cell.core.number cell.name

-- so the line of a cell says, where it is accepted
abbrev pub IsSameOrIsLeftOut : List (FileModel VModule) → CellEntry → Type 0
IsSameOrIsLeftOut models (Accepted cell entity) = audit_text models (Accepted cell entity) ≡ same_or_left_out cell
IsSameOrIsLeftOut models (Refused name refusal) = Unit {0}

-- A library compared with that Verilog ends neither for want of a module nor with one that differs. Where both are read, the line
-- of each accepted cell says that its module is the same, or where some of its outputs may float, that it is left out.
pub record AuditsWell (library : List ℕ) : Type 0 where
  pub not_model : (own_audit library).status ≢ status.Model
  pub not_differ : (own_audit library).status ≢ status.Differ
  pub lines :
      (cells : List CellEntry) (models : List (FileModel VModule))
      → library_answer library ≡ Ok cells → model_answer verilog (translate_outcome library).text.verilog ≡ Ok models
      → All (IsSameOrIsLeftOut models) cells

-- So it is for every library.
abbrev pub OwnModulesAuditWell : Type 0
OwnModulesAuditWell = (library : List ℕ) → AuditsWell library
