use Rattle.std.proofs.Common.{arith}
use Rattle.cell_machine.proofs.RuleLemmas.{few_groups}
use Rattle.scan_cells.proofs.group_steps.GroupPair.step_difference.Goals as goal

pub overflow_add-difference : goal.overflow_add-difference
overflow_add-difference c = omega (arith, few_groups c.args.self.now.cell.now, c.args.self.now.inside)
