use Rattle.std.proofs.Common.{◌≡◌, ◌++◌, drop}
use Rattle.vhdl_grammar.specs.VhdlDeclarations.{input_names}
use Rattle.vhdl_declarations_reader.proofs.process.input_names.Given as goal

abbrev pub invariant-loop-port : goal.invariant-loop-port
invariant-loop-port l = l.names ++ input_names (drop l.port-index l.ports) ≡ input_names l.ports
