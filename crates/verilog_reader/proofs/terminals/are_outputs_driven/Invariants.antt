use Rattle.std.proofs.Common.{◌≡◌, drop}
use Rattle.std.specs.List.{list_all}
use Rattle.verilog_grammar.specs.VerilogModules.{is_driven_already, output_nets}
use Rattle.verilog_reader.proofs.terminals.are_outputs_driven.Given as goal

abbrev pub invariant-loop-at : goal.invariant-loop-at
invariant-loop-at l =
    list_all (is_driven_already l.model) (output_nets l.at (drop l.at l.model.ports)) ≡ list_all (is_driven_already l.model) (output_nets 0 l.model.ports)
