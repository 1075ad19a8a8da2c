use Rattle.std.proofs.Common.{◌≡◌, take}
use Rattle.cell_machine.specs.Places.{places_from}
use Rattle.cell_machine.specs.CellTrace.{is_between}
use Rattle.cell_machine.proofs.arc_places.arcs_between.Given as goal

-- the numbers of those arcs so far that lead from the one to the other
abbrev pub invariant-loop-i : goal.invariant-loop-i
invariant-loop-i l = l.places ≡ places_from (is_between l.cell.pins l.input l.pin) 0 (take l.i l.cell.arcs)
