use Rattle.std.proofs.Common.{◌≡◌, ◌++◌, map, drop}
use Rattle.specify_blocks.proofs.nets.nets_of.Given as goal

abbrev pub invariant-loop-stands : goal.invariant-loop-stands
invariant-loop-stands g l =
    l.nets ++ map (g.S.HasNet.net_of l.pins) (drop l.stands-index l.support) ≡ map (g.S.HasNet.net_of l.pins) l.support
