use Rattle.std.proofs.Common.{◌≡◌, drop}
use Rattle.udp_tables.specs.VerilogPrimitives.{has_change}
use Rattle.verilog_udp_reader.proofs.row.has_change.Given as goal

abbrev pub invariant-loop-entry : goal.invariant-loop-entry
invariant-loop-entry l = has_change (drop l.entry-index l.entries) ≡ has_change l.entries
