use Rattle.std.proofs.Common.{arith, length, ◌≤◌}
use Rattle.specify_blocks.proofs.OutputPins.{few_outputs}
use Rattle.specify_blocks.proofs.instances.add_outputs.Goals as goal

pub overflow_add-next : goal.overflow_add-next
overflow_add-next c = let few : length c.args.cell.now.outputs ≤ 64 = few_outputs c.args.cell.now in omega arith
