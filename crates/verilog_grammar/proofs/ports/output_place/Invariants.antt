use Rattle.std.proofs.Common.{◌≡◌}
use Rattle.verilog_grammar.specs.VerilogModules.{output_place}
use Rattle.verilog_grammar.proofs.ports.output_place.Given as goal

abbrev pub invariant-loop-at : goal.invariant-loop-at
invariant-loop-at l = output_place l.ports l.at ≡ output_place l.ports l.from
