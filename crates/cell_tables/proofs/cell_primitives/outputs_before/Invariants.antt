use Rattle.std.proofs.Common.{◌≡◌, ◌≤◌, take}
use Rattle.std.specs.Prelude.{count_by}
use Rattle.udp_tables.specs.CellPrimitives.{has_sources}
use Rattle.cell_tables.proofs.cell_primitives.outputs_before.Given as goal

abbrev pub invariant-loop-i : goal.invariant-loop-i
invariant-loop-i l = record {
  counted : l.found ≡ count_by has_sources (take l.i l.outputs);
  few : l.found ≤ l.i;
}
