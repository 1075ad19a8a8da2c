use Rattle.std.proofs.Common.{◌≡◌, ◌++◌, map, drop}
use Rattle.cell_machine.specs.CellData.{data_of}
use Rattle.specify_blocks.specs.Generated.{each_from, condition_instance}
use Rattle.specify_blocks.proofs.instances.add_conditions.Given as goal

abbrev pub invariant-loop-i : goal.invariant-loop-i
invariant-loop-i l = l.instances ++ each_from (condition_instance (data_of l.cell)) l.i (map (λ f. f.now) (drop l.i l.conditions)) ≡ l.initial.instances ++ each_from (condition_instance (data_of l.cell)) 0 (map (λ f. f.now) l.conditions)
