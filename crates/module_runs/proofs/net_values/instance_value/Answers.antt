use Rattle.std.proofs.Common.{sym, length}
use Rattle.module_runs.proofs.WiringLemmas.{wired-table}
use Rattle.module_runs.proofs.net_values.instance_value.Goals as goal

pub table-table-requires : goal.table-table-requires
table-table-requires c = sym c.in-Some.ensures.value

pub primitive_value-requires-clause-table : goal.primitive_value-requires-clause-table
primitive_value-requires-clause-table c =
    rw c.table-table.ensures
    (wired-table (length c.args.room.now) c.args.values.now.tables.model.now c.in-Primitive.number c.in-Some.udp.now c.requires.wired (sym c.in-Some.ensures.value))
