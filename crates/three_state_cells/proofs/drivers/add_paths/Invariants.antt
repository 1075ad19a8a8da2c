use Rattle.std.proofs.Common.{◌≡◌, ◌++◌, map, drop}
use Rattle.three_state_cells.specs.Timing.{path_of}
use Rattle.three_state_cells.proofs.drivers.add_paths.Given as goal

abbrev pub invariant-loop-arc : goal.invariant-loop-arc
invariant-loop-arc l = l.paths ++ map (path_of l.pins l.drive) (drop l.arc-index l.arcs) ≡ l.initial.paths ++ map (path_of l.pins l.drive) l.arcs
