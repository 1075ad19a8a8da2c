-- What a simulator of a module knows of it.
use Rattle.std.specs.Prelude.{◌≡◌, map}
use Rattle.specify_blocks.specs.declared.model.VModule.{VModule}
use Rattle.module_runs.specs.declared.module_index.ModuleIndex.{ModuleIndex}
use Rattle.module_runs.specs.Keys.{udp_keys}
use Rattle.row_masks.specs.LookUps.{udp_masks}
use Rattle.run_parts.specs.InputNumbers.{input_numbers}
use Rattle.module_runs.specs.NetDrivers.{AreDrivers}
use Rattle.module_runs.specs.OutputPaths.{AreByOutput}
use Rattle.module_runs.specs.FedLists.{AreFed}
use Rattle.module_runs.specs.Gates.{AreGates}

-- these are the keys and the masks of its tables, the numbers of its ports among the inputs, the drivers of its nets, the paths
-- to its ports, the instances that changes feed and the gates of its paths
pub record IsModuleIndex (m : VModule) (index : ModuleIndex) : Type 0 where
  pub keyed : index.rows.keys ≡ map udp_keys m.udps
  pub masked : index.rows.masks ≡ map udp_masks m.udps
  pub numbered : index.numbers ≡ input_numbers m.ports
  pub driven : AreDrivers m.instances index.drivers
  pub by_output : AreByOutput m.paths index.paths.lists
  pub feeding : AreFed m.ports m.instances index.fed
  pub gated : AreGates m index.gates
