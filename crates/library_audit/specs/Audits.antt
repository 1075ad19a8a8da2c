-- The cells of a library compared with the modules of a Verilog file. This project's rules.
use Rattle.std.specs.Prelude.{ℕ, Bool, true, false, List, [], length, nat_lt, flat_map, slice_get, Option, Some, None}
use Rattle.std.specs.Prelude.{if◌then◌else◌}
use Rattle.std.specs.Option.{option_map, option_and_then}
use Rattle.std.specs.List.{list_any}
use Rattle.bool_functions.specs.NameList.{number_of}
use Rattle.cell_machine.specs.CellData.{CellData}
use Rattle.three_state_cells.specs.DrivenCells.{DrivenData, may_float}
use Rattle.library_reader.specs.LibraryCells.{CellEntry, Accepted, Refused}
use Rattle.specify_blocks.specs.declared.model.VModule.{VModule}
use Rattle.specify_blocks.specs.Names.{module_name}
use Rattle.file_models.specs.declared.file_model.FileModel.{FileModel}
use Rattle.model_files.specs.ModelNames.{model_names}
use Rattle.model_replay.specs.Verilog.{verilog}
use Rattle.table_audit.specs.declared.verdicts.Verdict.{Verdict}
use Rattle.table_audit.specs.declared.verdicts.Verdict.TheVariants as verdict
use Rattle.table_audit.specs.Verdict.{verdict_of}
use Rattle.library_audit.specs.Lines.{audit_line, left_out_line}

-- the module that a model of a file is; a driver is none
abbrev pub module_in : FileModel VModule → Option VModule
module_in model = if nat_lt 0 (length model.driver.drives) then None else Some model.core

-- the module with this number among the models of a file, if the model with this number is one
unfoldable pub module_at : List (FileModel VModule) → ℕ → Option VModule
module_at models number = option_and_then module_in (slice_get models number)

-- The module of a cell: the one with the name that is written for the cell in Verilog text, whatever its ports are. A driver is
-- none.
unfoldable pub module_for : List (FileModel VModule) → CellData → Option VModule
module_for models cell = option_and_then (module_at models)
    (number_of (model_names verilog models) (module_name cell.number cell.name))

-- what comparing a cell with the module with this number comes to, where it is there
unfoldable pub verdict_beside : List (FileModel VModule) → CellData → ℕ → Option Verdict
verdict_beside models cell number = option_map (verdict_of cell) (module_at models number)

-- what comparing a cell with its module comes to, where it is there
unfoldable pub verdict_in : List (FileModel VModule) → CellData → Option Verdict
verdict_in models cell = option_map (verdict_of cell) (module_for models cell)

-- The line of an accepted cell. One whose outputs may float is left out, since its models are drivers.
abbrev pub accepted_text : List (FileModel VModule) → DrivenData → List ℕ
accepted_text models cell =
    if may_float cell then left_out_line cell.core.number cell.name
    else audit_line cell.core.number cell.name (verdict_in models cell.core)

-- the line of a cell; one that is refused has none
abbrev pub audit_text : List (FileModel VModule) → CellEntry → List ℕ
audit_text models (Accepted cell entity) = accepted_text models cell
audit_text models (Refused name refusal) = []

-- the lines of a library's cells, in order
unfoldable pub audits_text : List (FileModel VModule) → List CellEntry → List ℕ
audits_text models cells = flat_map (audit_text models) cells

-- no module is there, or it is not the same
abbrev pub is_other : Option Verdict → Bool
is_other None = true
is_other (Some verdict.Same) = false
is_other (Some (verdict.Shape part number)) = true
is_other (Some (verdict.Differs difference)) = true

-- none of a cell's outputs may float, and no module is there for it that is the same
abbrev pub accepted_differs : List (FileModel VModule) → DrivenData → Bool
accepted_differs models cell = if may_float cell then false else is_other (verdict_in models cell.core)

-- so is a cell that is accepted
abbrev pub differs : List (FileModel VModule) → CellEntry → Bool
differs models (Accepted cell entity) = accepted_differs models cell
differs models (Refused name refusal) = false

-- so is some cell of these
abbrev pub any_differs : List (FileModel VModule) → List CellEntry → Bool
any_differs models cells = list_any (differs models) cells
