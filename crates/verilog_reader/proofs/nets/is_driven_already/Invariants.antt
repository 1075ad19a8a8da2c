use Rattle.std.proofs.Common.{◌≡◌, drop, nat_lt}
use Rattle.verilog_grammar.specs.specify_blocks.Nets.{drivers}
use Rattle.verilog_reader.proofs.nets.is_driven_already.Given as goal

abbrev pub invariant-loop-instance : goal.invariant-loop-instance
invariant-loop-instance l =
    nat_lt 0 (drivers (drop l.instance-index l.model.instances) l.net) ≡ nat_lt 0 (drivers l.model.instances l.net)
