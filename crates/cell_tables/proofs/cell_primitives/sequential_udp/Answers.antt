use Rattle.std.proofs.Common.{true}
use Rattle.cell_tables.proofs.NamedPrimitives.{named_as}
use Rattle.cell_tables.proofs.cell_primitives.sequential_udp.Goals as goal

pub returns : goal.returns
returns c = named_as c.named_primitive.result true c.in_ok-name.ensures c.group_inputs.ensures c.in_ok-rows.ensures c.named_primitive.ensures
