use Rattle.verilog_reader.proofs.FoundNets.{kept_next}
use Rattle.verilog_reader.proofs.netlist.Netlist.join.Goals as goal

pub invariant_of-self-2 : goal.invariant_of-self-2
invariant_of-self-2 c =
    kept_next c.self.inside.model c.self.inside.ports c.self.inside.wires c.self.inside.driven c.drive.new.self c.as_slice.result.now c.push.new.self c.args.instance
    c.has_state-stateful.result c.net_driven-net.result c.self.invariant c.as_slice.ensures c.has_state-stateful.ensures c.net_driven-net.ensures c.in_ok-push.ensures.ok
    c.drive.ensures
