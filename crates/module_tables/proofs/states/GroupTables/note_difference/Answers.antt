use Rattle.std.proofs.Common.{arith}
use Rattle.cell_machine.proofs.RuleLemmas.{few_groups}
use Rattle.module_tables.proofs.states.GroupTables.note_difference.Goals as goal

pub overflow_add-result : goal.overflow_add-result
overflow_add-result c = omega (arith, c.args.self.now.inside, few_groups c.args.self.now.cell.now)
