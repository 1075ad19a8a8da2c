use Rattle.std.proofs.Common.{◌≡◌, drop, find}
use Rattle.specify_blocks.specs.Nets.{same_net, net_driven}
use Rattle.module_terminals.specs.Terminals.{driving}
use Rattle.module_terminals.proofs.terminals.driving.Given as goal

-- the instance is among the rest
abbrev pub invariant-loop-instance : goal.invariant-loop-instance
invariant-loop-instance l =
    find (λ i. same_net (net_driven i) l.net) (drop l.instance-index l.model.instances) ≡ driving l.model l.net
