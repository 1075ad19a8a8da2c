-- The cells of a library as those that a stimulus may name, with the models of each. (This project's rules.)
use Rattle.std.specs.Prelude.{ℕ, List, [], ◌∷◌, ◌++◌, map, Option, None}
use Rattle.bool_functions.specs.NameList.{AreDistinct}
use Rattle.three_state_cells.specs.DrivenCells.{DrivenData}
use Rattle.generated_drivers.specs.Generated.{pins_of}
use Rattle.file_models.specs.declared.file_model.FileModel.{FileModel}
use Rattle.library_reader.specs.LibraryCells.{CellEntry, Accepted, Refused, cell_names}
use Rattle.specify_blocks.specs.declared.model.VModule.{VModule}
use Rattle.vital_models.specs.declared.model.VEntity.{VEntity}
use Rattle.stimulus.specs.declared.ports.Ports.{Ports}
use Rattle.stimulus.specs.declared.ports.Standing.{Standing}
use Rattle.stimulus.specs.declared.ports.Standing.TheVariants as standing
use Rattle.stimulus.specs.PortEntries.{NamedCells}
use Rattle.library_simulation.specs.declared.numbers.ModelNumbers.{ModelNumbers}
use Rattle.library_simulation.specs.declared.catalog.Simulated.{Simulated}
use Rattle.library_simulation.specs.PinNames.{named_ports}
use Rattle.library_simulation.specs.NamedModels.{NamedModels, named_models, module_names, lowered_names, verilog_number}
use Rattle.library_simulation.specs.NamedModels.{vital_number}
use Rattle.library_simulation.specs.Standings.{standing_by, numbers_by}

-- how an accepted cell stands whose VITAL model has this name
abbrev pub standing_in : NamedModels → List ℕ → DrivenData → Standing
standing_in models entity cell = standing_by (verilog_number models cell) (vital_number models entity cell)

-- how a cell stands, with its ports; of a refused one none is known
abbrev pub ports_in : NamedModels → CellEntry → Ports
ports_in models (Accepted cell entity) = named_ports (standing_in models entity cell) (pins_of cell)
ports_in models (Refused name refusal) = named_ports standing.Refused []

-- the numbers of a cell's models, where it may be given changes
abbrev pub numbers_in : NamedModels → CellEntry → Option ModelNumbers
numbers_in models (Accepted cell entity) = numbers_by (verilog_number models cell) (vital_number models entity cell)
numbers_in models (Refused name refusal) = None

-- the cells by their names, in their order
abbrev pub cells_in : NamedModels → List CellEntry → NamedCells
cells_in models cells = record { names = cell_names cells; cells = map (ports_in models) cells }

abbrev pub simulated_in : NamedModels → List CellEntry → Simulated
simulated_in models cells = record { catalog = cells_in models cells; models = map (numbers_in models) cells }

-- with a cell more behind the others, of this name, with these ports and these numbers of its models
abbrev pub with_cell : Simulated → List ℕ → Ports → Option ModelNumbers → Simulated
with_cell simulated name ports numbers =
    record {
      catalog = record { names = simulated.catalog.names ++ name ∷ []; cells = simulated.catalog.cells ++ ports ∷ [] };
      models = simulated.models ++ numbers ∷ [];
    }

-- the cells of a library beside the models of two files
abbrev pub cells_named : List CellEntry → List (FileModel VModule) → List (FileModel VEntity) → NamedCells
cells_named cells modules entities = cells_in (named_models modules entities) cells

abbrev pub simulated_of : List CellEntry → List (FileModel VModule) → List (FileModel VEntity) → Simulated
simulated_of cells modules entities = simulated_in (named_models modules entities) cells

-- no two cells have one name, no two Verilog models, and no two VITAL models whatever the case of its letters
pub record HaveOwnNames (cells : List CellEntry) (modules : List (FileModel VModule)) (entities : List (FileModel VEntity)) :
    Type 0 where
  pub of_cells : AreDistinct (cell_names cells)
  pub of_modules : AreDistinct (module_names modules)
  pub of_entities : AreDistinct (lowered_names entities)
