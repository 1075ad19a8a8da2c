use Rattle.std.proofs.Common.{◌≡◌, ◌++◌, drop}
use Rattle.vhdl_grammar.specs.vital_tables.Sound.{output_ports_from}
use Rattle.vhdl_outputs_reader.proofs.outputs.output_ports.Given as goal

abbrev pub invariant-loop-number : goal.invariant-loop-number
invariant-loop-number l = l.outputs ++ output_ports_from l.number (drop l.number l.ports) ≡ output_ports_from 0 l.ports
