use Rattle.std.proofs.Common.{◌≡◌, drop}
use Rattle.udp_tables.specs.Primitive.{level_output}
use Rattle.udp_tables.proofs.combinational.keyed_level.Given as goal

abbrev pub invariant-loop-i : goal.invariant-loop-i
invariant-loop-i l = level_output (drop l.i l.udp.rows) l.inputs ≡ level_output l.udp.rows l.inputs
