use Rattle.std.proofs.Common.{◌≡◌, ◌++◌, map, nat_eq, drop}
use Rattle.std.specs.Prelude.{filter}
use Rattle.cell_machine.specs.declared.arcs.Arc.{Arc}
use Rattle.cell_machine.specs.CellData.{data_of}
use Rattle.vital_models.specs.Generated.{path_of, paths_to}
use Rattle.vital_models.proofs.timing.paths_to.Given as goal

abbrev pub invariant-loop-arc : goal.invariant-loop-arc
invariant-loop-arc l =
    l.paths ++ map (path_of (data_of l.from.cell.now)) (filter (λ (arc : Arc). nat_eq arc.to l.pin) (drop l.arc-index l.from.cell.now.arcs))
    ≡ paths_to (data_of l.from.cell.now) l.pin
