use Rattle.std.proofs.Common.{length, ap, arith}
use Rattle.three_state_cells.proofs.CoreDrivers.{few_held}
use Rattle.three_state_cells.proofs.read.core_drivers.Goals as goal

pub drivers_of-requires : goal.drivers_of-requires
drivers_of-requires c =
    let few = few_held c.args.core.unit c.args.core.group.now c.args.core.pins.now c.in_ok-subject.subject c.requires.is_core c.in_ok-subject.ensures in
    let all = ap length c.deref.ensures.value in
    omega (arith, few, all)
