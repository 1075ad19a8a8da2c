-- The models of the accepted cells of a library in a language: that of the core of each cell, and that of its drivers where some
-- of its outputs may float. (That the drivers of a file are models of the file, behind the others, is this project's rule.)
use Rattle.std.specs.Prelude.{ℕ, List, [], ◌∷◌, ◌++◌, map, if◌then◌else◌}
use Rattle.driver_models.specs.declared.model.DriverModel.{DriverModel}
use Rattle.driver_models.specs.Cores.{Core}
use Rattle.three_state_cells.specs.DrivenCells.{DrivenData, may_float}
use Rattle.file_models.specs.declared.file_model.FileModel.{FileModel}
use Rattle.file_models.specs.FileModels.{plain_model, driver_over}
use Rattle.library_reader.specs.LibraryCells.{CellEntry, Accepted, Refused}

-- The models of a cell in a language, where the cell's VITAL model is called so: that of its core, and that of its drivers; and a
-- model as one that may be a core.
pub record CellModels (M : Type 0) : Type 0 where
  pub core : DrivenData → List ℕ → M
  pub driver : DrivenData → List ℕ → DriverModel
  pub as_core : M → Core

module _ {M : Type 0} (l : CellModels M) where
  -- the models of the cores of the accepted cells, in the order of the cells
  abbrev pub cores : List CellEntry → List M
  cores [] = []
  cores (Accepted cell entity ∷ cells) = l.core cell entity ∷ cores cells
  cores (Refused name refusal ∷ cells) = cores cells

  -- the drivers of a cell over the model of its core
  abbrev pub over_core : DrivenData → List ℕ → FileModel M
  over_core cell entity = driver_over (l.core cell entity) (l.driver cell entity)

  -- the same where some outputs may float
  abbrev pub cell_drivers : DrivenData → List ℕ → List (FileModel M)
  cell_drivers cell entity = if may_float cell then over_core cell entity ∷ [] else []

  -- those of all accepted cells
  abbrev pub drivers : List CellEntry → List (FileModel M)
  drivers [] = []
  drivers (Accepted cell entity ∷ cells) = cell_drivers cell entity ++ drivers cells
  drivers (Refused name refusal ∷ cells) = drivers cells

  -- the models of the accepted cells in a file: those of the cores, and behind them the drivers
  abbrev pub all_models : List CellEntry → List (FileModel M)
  all_models cells = map (plain_model l.as_core) (cores cells) ++ drivers cells

  -- the model that stands for a cell: its drivers where some outputs may float, else that of its core
  abbrev pub cell_model : DrivenData → List ℕ → FileModel M
  cell_model cell entity = if may_float cell then over_core cell entity else plain_model l.as_core (l.core cell entity)
