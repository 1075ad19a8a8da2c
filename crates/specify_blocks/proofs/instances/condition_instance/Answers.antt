use Rattle.std.proofs.Common.{arith, length, ◌≤◌}
use Rattle.cell_machine.proofs.RuleLemmas.{few_groups}
use Rattle.specify_blocks.proofs.instances.condition_instance.Goals as goal

pub overflow_add-wire : goal.overflow_add-wire
overflow_add-wire c = let few : length c.args.cell.now.groups ≤ 16 = few_groups c.args.cell.now in omega arith
