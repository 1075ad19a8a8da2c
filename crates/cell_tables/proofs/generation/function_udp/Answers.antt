use Rattle.std.proofs.Common.{false, refl}
use Rattle.cell_tables.proofs.NamedPrimitives.{named_as}
use Rattle.cell_tables.proofs.generation.function_udp.Goals as goal

pub returns : goal.returns
returns c =
    named_as c.named_primitive.result false {count = c.args.names} c.in_ok-name.ensures refl c.in_ok-rows.ensures c.named_primitive.ensures
