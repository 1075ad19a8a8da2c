use Rattle.std.proofs.Common.{ap}
use Rattle.vital_models.proofs.tables.condition_table.Goals as goal

pub returns : goal.returns
returns c = ap (λ rows. record { rows = rows }) c.in_ok-rows.ensures
