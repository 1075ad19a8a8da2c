use Rattle.std.proofs.Common.{◌++◌, ◌∷◌, [], subst}
use Rattle.verilog_grammar.specs.SameNames.{HaveSame}
use Rattle.verilog_grammar.proofs.SameNames.{more_ports}
use Rattle.verilog_grammar.proofs.wires.names_of_ports.Goals as goal

pub loop-port-preserved : goal.loop-port-preserved
loop-port-preserved c =
    more_ports c.loop-port.names c.add_name.new.names c.args.ports.now c.loop-port.port-index c.port-item.result c.loop-port-test.true c.port-item.is c.loop-port.invariant
    (subst (λ x. HaveSame c.add_name.new.names (c.loop-port.names ++ x ∷ [])) c.as_slice.ensures c.in_ok-add_name.ensures.same)
