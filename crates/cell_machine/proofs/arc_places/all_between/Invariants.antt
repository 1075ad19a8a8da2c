use Rattle.std.proofs.Common.{◌≡◌, map}
use Rattle.std.specs.List.{range_with_len}
use Rattle.cell_machine.specs.CellData.{data_of}
use Rattle.cell_machine.specs.ArcPlaces.{arcs_from}
use Rattle.cell_machine.proofs.arc_places.all_between.Given as goal

-- the numbers for the inputs so far
abbrev pub invariant-loop-input : goal.invariant-loop-input
invariant-loop-input l = l.all ≡ map (arcs_from (data_of l.cell)) (range_with_len 0 l.input)
