use Rattle.std.proofs.Common.{◌≡◌, drop}
use Rattle.std.specs.List.{list_any}
use Rattle.verilog_reader.specs.DrivenNets.{drives_wire}
use Rattle.verilog_reader.proofs.nets.is_wire_driven_by.Given as goal

abbrev pub invariant-loop-instance : goal.invariant-loop-instance
invariant-loop-instance l =
    list_any (drives_wire l.stateful l.model.udps l.wire) (drop l.instance-index l.model.instances) ≡ list_any (drives_wire l.stateful l.model.udps l.wire) l.model.instances
