use Rattle.std.proofs.Common.{◌∙◌, ◌++◌, ap}
use Rattle.udp_tables.specs.VerilogRules.{is_among}
use Rattle.verilog_grammar.specs.VerilogModules.{port_names}
use Rattle.verilog_grammar.proofs.wires.new_net_name.Goals as goal

pub returns : goal.returns
returns c =
    c.fresh_name.ensures (port_names c.args.ports.now ++ c.args.wires.now)
    (c.is_declared-taken.ensures ∙ ap (is_among (port_names c.args.ports.now ++ c.args.wires.now)) c.bytes.ensures)
