use Rattle.std.proofs.Common.{◌≡◌, take, map}
use Rattle.cell_machine.specs.declared.outputs.OutputPin.{OutputPin}
use Rattle.cell_machine.specs.CellData.{data_of}
use Rattle.cell_machine.specs.ArcPlaces.{arcs_between}
use Rattle.cell_machine.proofs.arc_places.arcs_from.Given as goal

-- the numbers for the outputs so far
abbrev pub invariant-loop-i : goal.invariant-loop-i
invariant-loop-i l = l.lists ≡ map (λ (output : OutputPin). arcs_between (data_of l.cell) l.input output.pin) (take l.i l.cell.outputs)
