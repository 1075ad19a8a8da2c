use Rattle.std.proofs.Common.{take}
use Rattle.verilog_reader.specs.DrivenNets.{AreDriven}
use Rattle.verilog_reader.proofs.driven_nets.driven_nets.Given as goal

abbrev pub invariant-loop-instance : goal.invariant-loop-instance
invariant-loop-instance l = AreDriven l.driven l.model.udps (take l.instance-index l.model.instances)
