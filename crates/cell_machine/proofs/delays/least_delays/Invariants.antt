use Rattle.std.proofs.Common.{◌≡◌, drop}
use Rattle.trit_cubes.specs.declared.trits.Trit.TheVariants.{Zero, One}
use Rattle.cell_machine.specs.Delay.{lesser}
use Rattle.cell_machine.specs.Places.{entries_at}
use Rattle.cell_machine.specs.ArcDelay.{least_of}
use Rattle.cell_machine.specs.KeptConditions.{AreConditions}
use Rattle.cell_machine.proofs.delays.least_delays.Given as goal

-- the best so far and the least of the rest give the least of all
abbrev pub invariant-loop-i : goal.invariant-loop-i
invariant-loop-i l = record {
  rise :
      lesser l.best.rise
      (least_of l.arcs.cell.now.pins (entries_at l.arcs.cell.now.arcs l.places) l.arcs.inputs.now Zero One (drop l.i (entries_at l.arcs.cell.now.arcs l.places)))
      ≡ least_of l.arcs.cell.now.pins (entries_at l.arcs.cell.now.arcs l.places) l.arcs.inputs.now Zero One (entries_at l.arcs.cell.now.arcs l.places);
  fall :
      lesser l.best.fall
      (least_of l.arcs.cell.now.pins (entries_at l.arcs.cell.now.arcs l.places) l.arcs.inputs.now One Zero (drop l.i (entries_at l.arcs.cell.now.arcs l.places)))
      ≡ least_of l.arcs.cell.now.pins (entries_at l.arcs.cell.now.arcs l.places) l.arcs.inputs.now One Zero (entries_at l.arcs.cell.now.arcs l.places);
  kept : AreConditions l.arcs.cell.now.pins l.arcs.inputs.now l.arcs.cell.now.arcs l.kept;
}
