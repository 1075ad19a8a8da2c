use Rattle.std.proofs.Common.{arith}
use Rattle.cell_machine.proofs.RuleLemmas.{few_groups}
use Rattle.cell_tables.proofs.timing_checks.check_behind.Goals as goal

pub number_behind-requires : goal.number_behind-requires
number_behind-requires c = omega (arith, few_groups c.args.from.now.cell.now, c.requires)
