-- What stands once the files of a simulation are read.
use Rattle.std.specs.Prelude.{◌≡◌, All}
use Rattle.text_io.specs.Desk.{DeskState}
use Rattle.library_reader.specs.LibraryCells.{all_described}
use Rattle.specify_blocks.specs.Sound as modules_of
use Rattle.vital_models.specs.Sound as entities_of
use Rattle.model_traces.specs.ModuleTrace.{module_machine}
use Rattle.model_traces.specs.EntityTrace.{entity_machine}
use Rattle.run_outcome.specs.FilesRead.{HasRead}
use Rattle.library_simulation.specs.Catalog.{simulated_of, HaveOwnNames}
use Rattle.library_simulation.specs.Ends.{sections_outcome}
use Rattle.library_simulation.specs.Sections.{RunsByPorts, CanBeCompared}
use Rattle.library_simulation.specs.declared.simulation.ModelsRead.{ModelsRead}
use Rattle.library_simulation.specs.declared.simulation.Simulation.{Simulation}
use Rattle.library_simulation.specs.Simulate.{simulate_files, model_files, simulate_of, behind_models}

-- The library and the two files of models were read: the models can be run, and no two cells or models share a name. Nothing
-- was appended, and where the desk tells the files the run comes to what the stimulus comes to behind these.
pub record ReadsModels (old new : DeskState) (read : ModelsRead) : Type 0 where
  pub files : HasRead simulate_files model_files (simulate_of old.words)
      (behind_models (all_described read.cells) read.modules read.entities old.words) old new
  pub own : HaveOwnNames (all_described read.cells) read.modules read.entities
  pub modules : All (RunsByPorts modules_of.IsSound module_machine) read.modules
  pub entities : All (RunsByPorts entities_of.IsSound entity_machine) read.entities

-- All sections of a simulation can be run, each on its cell and on the models that stand for this cell.
pub record CanBePrinted (simulation : Simulation) : Type 0 where
  pub simulated : simulation.simulated ≡ simulated_of (all_described simulation.read.cells) simulation.read.modules
      simulation.read.entities
  pub sections : All (CanBeCompared (all_described simulation.read.cells) simulation.read.modules simulation.read.entities)
      simulation.sections

-- The stimulus was read as well: its sections can be run. Nothing was appended, and where the desk tells the files the run comes
-- to these sections.
pub record ReadsSimulation (old new : DeskState) (simulation : Simulation) : Type 0 where
  pub files :
      HasRead simulate_files simulate_files (simulate_of old.words)
      (λ _. sections_outcome (all_described simulation.read.cells) simulation.read.modules simulation.read.entities
      simulation.sections) old new
  pub runs : CanBePrinted simulation
