use Rattle.std.proofs.Common.{sym, ◌∙◌}
use Rattle.verilog_grammar.specs.VerilogModules.{port_names}
use Rattle.verilog_grammar.proofs.SameNames.{wire_added_where}
use Rattle.verilog_grammar.proofs.wires.module_wire.Goals as goal

pub returns-clause-named : goal.returns-clause-named
returns-clause-named c =
    wire_added_where c.args.found.now.names c.add.new.self.names (port_names c.args.ports.now) c.args.found.now.items c.add.new.self.items c.args.token.now c.in_ok-name.name c.add.result
    c.requires.same (c.in_ok-name.ensures.named ∙ sym c.requires.next) c.add.ensures.items c.add.ensures.names
