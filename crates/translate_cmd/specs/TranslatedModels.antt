-- The cells of a library that translating it accepts, and the models of their cores and of their drivers. This project's rules.
use Rattle.std.specs.Prelude.{ℕ, List, [], ◌∷◌, ◌++◌, Option, Some, None}
use Rattle.written_driven_models.specs.liberty_groups.declared.tree.Group.{Group}
use Rattle.cell_reader.specs.declared.refusal.Refusal.{Refusal}
use Rattle.cell_cursor.specs.declared.item.LibraryItem.{LibraryItem}
use Rattle.cell_cursor.specs.Ends.{items_within}
use Rattle.written_driven_models.specs.three_state_cells.DrivenCells.{DrivenData}
use Rattle.written_driven_models.specs.specify_blocks.declared.model.VModule.{VModule}
use Rattle.written_driven_models.specs.vital_models.declared.model.VEntity.{VEntity}
use Rattle.library_simulation.specs.file_models.sectioned_texts.declared.driven_models.DrivenModels.{DrivenModels}
use Rattle.written_driven_models.specs.Texts.{WrittenModel, models_of, drivers_of}
use Rattle.written_driven_models.specs.VerilogLibrary.{driven_modules_of}
use Rattle.written_driven_models.specs.VitalLibrary.{driven_entities_of}
use Rattle.library_simulation.specs.library_reader.declared.progress.Progress.{Progress}
use Rattle.library_simulation.specs.library_reader.Progress.{no_progress, next_refusal, next_data, after_item}
use Rattle.library_simulation.specs.library_reader.KeptCells.{of_cell}
use Rattle.library_simulation.specs.library_reader.Endings.{library_limit}

-- the next cell, where nothing refuses it
abbrev pub cells_by : Progress → Group → Option Refusal → List DrivenData
cells_by p group None = next_data p group ∷ []
cells_by p group (Some refusal) = []

-- the cell that an item is, where it is one and is accepted
abbrev pub item_cells : Progress → LibraryItem → List DrivenData
item_cells p = of_cell (λ group. cells_by p group (next_refusal p group))

-- the accepted cells among these items, in order
abbrev pub accepted_cells : Progress → List LibraryItem → List DrivenData
accepted_cells p [] = []
accepted_cells p (one ∷ items) = item_cells p one ++ accepted_cells (after_item p one) items

-- the accepted cells of a library
abbrev pub cells_in : List ℕ → List DrivenData
cells_in bytes = accepted_cells no_progress (items_within library_limit bytes)

-- The modules of their cores, and over each of these the drivers of the cell where some of its outputs may float.
abbrev pub modules_in : List ℕ → List (WrittenModel VModule)
modules_in bytes = driven_modules_of (cells_in bytes)

-- the entities of their cores and drivers so, each named behind those before it
abbrev pub entities_in : List ℕ → List (WrittenModel VEntity)
entities_in bytes = driven_entities_of (cells_in bytes)

-- the modules apart from the drivers
abbrev pub verilog_in : List ℕ → DrivenModels VModule
verilog_in bytes = record { models = models_of (modules_in bytes); drivers = drivers_of (modules_in bytes) }

-- the entities apart from the drivers
abbrev pub vital_in : List ℕ → DrivenModels VEntity
vital_in bytes = record { models = models_of (entities_in bytes); drivers = drivers_of (entities_in bytes) }
