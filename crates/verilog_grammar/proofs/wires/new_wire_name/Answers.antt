use Rattle.std.proofs.Common.{◌++◌, ◌∙◌, ap}
use Rattle.udp_tables.specs.VerilogRules.{is_among}
use Rattle.verilog_grammar.specs.VerilogModules.{port_names}
use Rattle.verilog_grammar.proofs.SameNames.{wire_named, wire_fresh}
use Rattle.verilog_grammar.proofs.wires.new_wire_name.Goals as goal

pub returns-clause-reads : goal.returns-clause-reads
returns-clause-reads c =
    let all = port_names c.args.ports.now ++ c.args.wires.now in
    c.fresh_name.ensures all (c.has-taken.ensures ∙ c.requires c.bytes.result.now ∙ ap (is_among all) c.bytes.ensures)

pub returns-clause-named : goal.returns-clause-named
returns-clause-named c =
    let all = port_names c.args.ports.now ++ c.args.wires.now in
    wire_named all c.args.cursor.now c.fresh_name.new.self c.fresh_name.result
    (c.fresh_name.ensures all (c.has-taken.ensures ∙ c.requires c.bytes.result.now ∙ ap (is_among all) c.bytes.ensures))

pub returns-clause-fresh : goal.returns-clause-fresh
returns-clause-fresh c =
    let all = port_names c.args.ports.now ++ c.args.wires.now in
    wire_fresh c.args.names.now all c.args.cursor.now c.fresh_name.new.self c.fresh_name.result c.requires
    (c.fresh_name.ensures all (c.has-taken.ensures ∙ c.requires c.bytes.result.now ∙ ap (is_among all) c.bytes.ensures))
