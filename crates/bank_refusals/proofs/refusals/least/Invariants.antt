use Rattle.std.proofs.Common.{◌≡◌, drop}
use Rattle.cell_machine.specs.Delay.{lesser, least}
use Rattle.bank_refusals.proofs.refusals.least.Given as goal

abbrev pub invariant-loop-at : goal.invariant-loop-at
invariant-loop-at l =
    lesser l.least (least (drop l.at-index l.offsets)) ≡ least l.offsets
