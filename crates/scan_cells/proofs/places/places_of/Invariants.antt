use Rattle.std.proofs.Common.{◌≡◌, ◌++◌, ◌-◌, filter, length}
use Rattle.std.specs.List.{range_with_len}
use Rattle.cell_machine.specs.CellData.{data_of}
use Rattle.scan_cells.specs.Places.{in_either, state_sources, places_of}
use Rattle.scan_cells.proofs.places.places_of.Given as goal

-- the places so far and those of the other states are all
abbrev pub invariant-loop-group : goal.invariant-loop-group
invariant-loop-group l =
    l.places
    ++ filter (in_either l.first l.second) (state_sources (range_with_len l.group (length l.cell.groups - l.group)))
    ≡ places_of (data_of l.cell) l.first l.second
