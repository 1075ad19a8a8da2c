-- Laws of the models and drivers that are generated for the cells of one library.
use Rattle.std.specs.Prelude.{◌≡◌, ℕ, All, List, [], nat_eq, bytes_eq, Option, Ok}
use Rattle.std.specs.List.{IsDistinct}
use Rattle.liberty_text.specs.declared.time.Unit.{Unit}
use Rattle.liberty_groups.specs.declared.tree.Group.{Group}
use Rattle.generated_drivers.specs.three_state_cells.DrivenCells.{DrivenData, driven_data}
use Rattle.generated_entities.specs.generated_modules.Cells.{IsNumberedCell}
use Rattle.sectioned_texts.specs.DrivenModels.{driven_models}
use Rattle.written_driven_models.specs.Texts.{WrittenLanguage, WrittenModel, written_text, models_of, drivers_of}
use Rattle.written_driven_models.specs.Laws.{WellFormedness, AreWellFormedDrivers}
use Rattle.written_driven_models.specs.Verilog.{written_verilog, well_formed_verilog}
use Rattle.written_driven_models.specs.Vital.{written_vital, well_formed_vital}
use Rattle.written_driven_models.specs.Library.{IsNumberedDriven, own_names, own_numbers, AreNumberedApart, AreOfOneLibrary}
use Rattle.written_driven_models.specs.VerilogLibrary.{driven_modules_of}
use Rattle.written_driven_models.specs.VitalLibrary.{driven_entities_of}

-- what is read of a cell is one of a library, where its core keeps the rules of cells
abbrev pub ReadCellsAreNumbered : Type 0
ReadCellsAreNumbered =
    (unit : Option Unit) (number : ℕ) (cell : Group) → IsNumberedCell (driven_data unit number cell).core
    → IsNumberedDriven (driven_data unit number cell)

-- cells of which no two have one name or one number are cells of one library
abbrev pub DistinctCellsAreOfOneLibrary : Type 0
DistinctCellsAreOfOneLibrary =
    (cells : List DrivenData) → All IsNumberedDriven cells → IsDistinct bytes_eq (own_names cells)
    → IsDistinct nat_eq (own_numbers cells) → AreOfOneLibrary cells

-- Models and drivers are well formed together, each driver behind those before it, and what is written of them reads back.
pub record AreWellFormedTogether {M : Type 0} (w : WrittenLanguage M) (r : WellFormedness M) (xs : List (WrittenModel M)) :
    Type 0 where
  pub models : r.AreWellFormed (models_of xs)
  pub drivers : AreWellFormedDrivers w r (models_of xs) [] (drivers_of xs)
  pub read_back : driven_models w.language (written_text w xs) ≡ Ok (record { models = models_of xs; drivers = drivers_of xs })

-- the modules of the cores of the cells of one library and the drivers over them are
abbrev pub DrivenModulesAreWellFormed : Type 0
DrivenModulesAreWellFormed =
    (cells : List DrivenData) → AreOfOneLibrary cells
    → AreWellFormedTogether written_verilog well_formed_verilog (driven_modules_of cells)

-- the entities and the drivers of cells of which no two have one number are
abbrev pub DrivenEntitiesAreWellFormed : Type 0
DrivenEntitiesAreWellFormed =
    (cells : List DrivenData) → AreNumberedApart cells
    → AreWellFormedTogether written_vital well_formed_vital (driven_entities_of cells)
