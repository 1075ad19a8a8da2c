use Rattle.std.proofs.Common.{◌≡◌, ◌++◌, ◌-◌, filter, length}
use Rattle.std.specs.List.{range_with_len}
use Rattle.scan_cells.specs.Places.{in_either, pin_sources}
use Rattle.scan_cells.proofs.places.pin_places.Given as goal

-- the places so far and those of the other pins are all
abbrev pub invariant-loop-pin : goal.invariant-loop-pin
invariant-loop-pin l =
    l.places
    ++ filter (in_either l.first l.second) (pin_sources (range_with_len l.pin (length l.cell.pins - l.pin)))
    ≡ filter (in_either l.first l.second) (pin_sources (range_with_len 0 (length l.cell.pins)))
