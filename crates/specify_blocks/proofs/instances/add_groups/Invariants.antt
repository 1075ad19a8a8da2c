use Rattle.std.proofs.Common.{◌≡◌, ◌++◌, drop}
use Rattle.cell_machine.specs.CellData.{data_of}
use Rattle.specify_blocks.specs.Generated.{each_from, group_instance}
use Rattle.specify_blocks.proofs.instances.add_groups.Given as goal

abbrev pub invariant-loop-g : goal.invariant-loop-g
invariant-loop-g l = l.instances ++ each_from (group_instance (data_of l.cell)) l.g (drop l.g l.cell.groups) ≡ l.initial.instances ++ each_from (group_instance (data_of l.cell)) 0 l.cell.groups
