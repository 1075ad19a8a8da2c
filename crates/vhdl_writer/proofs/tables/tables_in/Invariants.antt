use Rattle.std.proofs.Common.{◌≡◌, ◌≤◌, count_by, take}
use Rattle.vhdl_writer.specs.Tables.{is_looked_up}
use Rattle.vhdl_writer.proofs.tables.tables_in.Given as goal

abbrev pub invariant-loop-output : goal.invariant-loop-output
invariant-loop-output l = record {
  found : l.found ≡ count_by is_looked_up (take l.output-index l.outputs);
  bound : l.found ≤ l.output-index;
}
