use Rattle.std.proofs.Common.{arith}
use Rattle.cell_machine.proofs.RuleLemmas.{few_groups}
use Rattle.scan_cells.proofs.Outputs.{few_outputs}
use Rattle.scan_cells.proofs.output_values.OutputPair.point_difference.Goals as goal

pub overflow_add-difference : goal.overflow_add-difference
overflow_add-difference c =
    let cell = c.args.self.now.cell.now in
    omega (arith, c.len.ensures, few_groups cell, few_outputs cell, c.args.self.now.in_cell)

pub overflow_add-difference-2 : goal.overflow_add-difference-2
overflow_add-difference-2 c =
    let cell = c.args.self.now.cell.now in
    omega (arith, c.len.ensures, few_groups cell, few_outputs cell, c.args.self.now.in_cell)
