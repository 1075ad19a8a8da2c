use Rattle.std.proofs.Common.{false}
use Rattle.verilog_grammar.proofs.Headers.{ports_named}
use Rattle.verilog_grammar.proofs.declarations.HeaderPortNamedPart.add.Goals as goal

pub returns-clause-named : goal.returns-clause-named
returns-clause-named c =
    ports_named c.args.found.now.names c.add.new.self.names c.args.found.now.items c.add.new.self.items
    (record { name = c.in_ok-from_slice.field-0; input = false }) c.in_ok-name.name.now c.add.result c.requires
    c.in_ok-from_slice.ensures c.add.ensures.items c.add.ensures.names
