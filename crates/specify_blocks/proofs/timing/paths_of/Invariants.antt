use Rattle.std.proofs.Common.{◌≡◌, ◌++◌, map, drop}
use Rattle.cell_machine.specs.CellData.{data_of}
use Rattle.specify_blocks.specs.Generated.{path_of}
use Rattle.specify_blocks.proofs.timing.paths_of.Given as goal

abbrev pub invariant-loop-arc : goal.invariant-loop-arc
invariant-loop-arc l = l.paths ++ map (path_of (data_of l.from.cell.now)) (drop l.arc-index l.from.cell.now.arcs) ≡ map (path_of (data_of l.from.cell.now)) l.from.cell.now.arcs
