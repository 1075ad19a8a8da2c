use Rattle.std.proofs.Common.{◌≡◌, drop}
use Rattle.std.specs.List.{list_all}
use Rattle.verilog_grammar.specs.VerilogModules.{is_driven_already, wire_nets}
use Rattle.verilog_reader.proofs.terminals.are_wires_driven.Given as goal

abbrev pub invariant-loop-wire : goal.invariant-loop-wire
invariant-loop-wire l =
    list_all (is_driven_already l.model) (wire_nets l.wire (drop l.wire l.model.wires)) ≡ list_all (is_driven_already l.model) (wire_nets 0 l.model.wires)
