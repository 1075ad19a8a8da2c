use Rattle.std.proofs.Common.{drop}
use Rattle.specify_blocks.specs.declared.model.VNet.{VNet}
use Rattle.module_runs.specs.NetDrivers.{IsKnown, driver_from}
use Rattle.module_runs.proofs.drivers.Drivers.of.Given as goal

-- the drivers among the instances from this one on
abbrev pub invariant-loop-i : goal.invariant-loop-i
invariant-loop-i l = (n : VNet) → IsKnown l.drivers n (driver_from l.i (drop l.i l.model.instances) n)
