-- What is known of a module before any change.
use Rattle.std.specs.Prelude.{◌≡◌, [], map}
use Rattle.specify_blocks.specs.declared.model.VModule.{VModule}
use Rattle.model_traces.specs.PortNumbers.{output_ports}
use Rattle.module_runs.specs.declared.module_start.ModuleStart.{ModuleStart}
use Rattle.module_runs.specs.ModuleIndexed.{IsModuleIndex}
use Rattle.model_traces.specs.ModuleRun.{start_run}
use Rattle.module_runs.specs.KeptValues.{kept_values}
use Rattle.module_runs.specs.ModuleStands.{shown_after}

-- this is where its parts are found, what its instances drive, and what its outputs show where nothing changed yet
pub record IsModuleStart (m : VModule) (start : ModuleStart) : Type 0 where
  pub indexed : IsModuleIndex m start.index
  pub kept_are : start.kept ≡ kept_values m (start_run m).inputs (start_run m).states
  pub shown_are : start.shown ≡ map (shown_after m []) (output_ports m.ports)
