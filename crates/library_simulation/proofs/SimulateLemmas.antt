-- Simulating: names of models in which none stands twice, models that can be run, and how a run ends whose sections were printed.
use Rattle.std.proofs.Common.{◌≡◌, ◌≤◌, ℕ, List, length, Ok, arith}
use Rattle.std.specs.Prelude.{All}
use Rattle.bool_functions.specs.NameList.{AreDistinct}
use Rattle.library_reader.specs.LibraryCells.{CellEntry, cell_names}
use Rattle.specify_blocks.specs.declared.model.VModule.{VModule}
use Rattle.specify_blocks.specs.Sound as modules_of
use Rattle.vital_models.specs.declared.model.VEntity.{VEntity}
use Rattle.vital_models.specs.Sound as entities_of
use Rattle.file_models.specs.declared.file_model.FileModel.{FileModel}
use Rattle.file_models.specs.FileModels.{IsRunnable}
use Rattle.model_traces.specs.ModuleTrace.{module_machine}
use Rattle.model_traces.specs.EntityTrace.{entity_machine}
use Rattle.vhdl_grammar.specs.WellFormed.{IsCount}
use Rattle.model_files.specs.Limits.{model_limit}
use Rattle.model_files.specs.ModelNames as in_files
use Rattle.model_replay.specs.Verilog.{verilog}
use Rattle.model_replay.specs.Vital.{vital, vital_models}
use Rattle.model_replay.specs.Laws.{EntitiesHaveOwnNames}
use Rattle.library_simulation.specs.Catalog.{HaveOwnNames}
use Rattle.library_simulation.specs.Sections.{RunsByPorts}
use Rattle.library_simulation.proofs.OwnNames.{modules_apart, entities_apart}

pub modules_run : (modules : List (FileModel VModule)) → All (IsRunnable modules_of.IsSound module_machine) modules
    → in_files.HaveOwnNames verilog modules
    → All (RunsByPorts modules_of.IsSound module_machine) modules
modules_run modules runs own = λ k d below. let ports = own.ports k d below
    in record { runs = runs k d below; inputs = ports.inputs; outputs = ports.outputs }

pub entities_run : (entities : List (FileModel VEntity)) → All (IsRunnable entities_of.IsSound entity_machine) entities
    → in_files.HaveOwnNames vital entities
    → All (RunsByPorts entities_of.IsSound entity_machine) entities
entities_run entities runs own = λ k d below. let ports = own.ports k d below
    in record { runs = runs k d below; inputs = ports.inputs; outputs = ports.outputs }

-- memory holds a text within its limit
held : (n : ℕ) → n ≤ model_limit → IsCount n
held n h = grind (arith, h)

-- cells of different names beside the models of two files
pub own_names : (cells : List CellEntry) (modules : List (FileModel VModule)) (entities : List (FileModel VEntity))
    (vhdl : List ℕ) → EntitiesHaveOwnNames
    → AreDistinct (cell_names cells) → in_files.HaveOwnNames verilog modules → length vhdl ≤ model_limit
    → vital_models vhdl ≡ Ok entities → HaveOwnNames cells modules entities
own_names cells modules entities vhdl texts own named short found = record {
  of_cells = own;
  of_modules = modules_apart modules named;
  of_entities = entities_apart entities (texts vhdl entities (held (length vhdl) short) found).apart;
}
