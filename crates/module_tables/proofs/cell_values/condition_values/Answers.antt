use Rattle.std.proofs.Common.{rules}
use Rattle.cell_machine.specs.Outputs.{condition_at}
use Rattle.module_tables.proofs.cell_values.condition_values.Goals as goal

pub returns : goal.returns
returns c =
    c.values_at.ensures (condition_at c.args.names.now c.args.condition.now) (record { at_point = λ p long t says. search rules })
