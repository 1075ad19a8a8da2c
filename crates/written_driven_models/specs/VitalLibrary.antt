-- The entities of the cells of one library, and the models of their three-state drivers. (IEEE 1076-1993, 13.3.1: names are the
-- same whatever the case of their letters; that a cell's name is kept where no model before it has it is this project's rule.)
use Rattle.std.specs.Prelude.{ℕ, Bool, true, false, List, [], ◌∷◌, ◌++◌, codes, decimal, Some, None}
use Rattle.generated_drivers.specs.vhdl_tokens.Kept.{lowered}
use Rattle.generated_drivers.specs.vital_models.declared.model.VEntity.{VEntity}
use Rattle.generated_drivers.specs.vital_models.Kept.{entity_name, driver_name}
use Rattle.generated_drivers.specs.vital_models.Generated.{entity_of}
use Rattle.generated_entities.specs.Library.{entity_behind}
use Rattle.generated_drivers.specs.three_state_cells.DrivenCells.{DrivenData, may_float}
use Rattle.generated_drivers.specs.Generated.{vital_driver_of}
use Rattle.written_driven_models.specs.Texts.{WrittenModel}

-- The name of a cell's model behind models with these names in lower case, by whether some of its outputs may float.
abbrev pub model_name : Bool → List (List ℕ) → DrivenData → List ℕ
model_name true given cell = driver_name cell.core.number given cell.name
model_name false given cell = entity_name cell.core.number given cell.core.name

-- The entity of a cell with this model, or of its core, and the model of its drivers, where some of its outputs may float.
abbrev pub driven_entity : Bool → List (List ℕ) → DrivenData → WrittenModel VEntity
driven_entity true given cell = record {
  model = entity_of cell.core (codes "cell" ++ decimal cell.core.number);
  driver = Some (vital_driver_of cell (driver_name cell.core.number given cell.name));
}
driven_entity false given cell = record { model = entity_behind given cell.core; driver = None }

-- those of cells, each behind those before it and behind models with these names in lower case
abbrev pub driven_entities_behind : List (List ℕ) → List DrivenData → List (WrittenModel VEntity)
driven_entities_behind given [] = []
driven_entities_behind given (cell ∷ cells) =
    driven_entity (may_float cell) given cell
    ∷ driven_entities_behind (given ++ lowered (model_name (may_float cell) given cell) ∷ []) cells

-- those of the cells of a library
abbrev pub driven_entities_of : List DrivenData → List (WrittenModel VEntity)
driven_entities_of cells = driven_entities_behind [] cells
