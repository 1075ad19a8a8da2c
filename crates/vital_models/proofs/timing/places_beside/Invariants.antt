use Rattle.std.proofs.Common.{◌≡◌, ◌++◌, map, drop}
use Rattle.cell_machine.specs.CellData.{data_of}
use Rattle.vital_tables.specs.udp_tables.Conditions.{conditions_beside}
use Rattle.vital_models.specs.Generated.{place_of}
use Rattle.vital_models.proofs.timing.places_beside.Given as goal

abbrev pub invariant-loop-other : goal.invariant-loop-other
invariant-loop-other l =
    l.places ++ map (place_of (data_of l.from.cell.now)) (conditions_beside (drop l.other-index l.from.cell.now.arcs) l.arc)
    ≡ map (place_of (data_of l.from.cell.now)) (conditions_beside l.from.cell.now.arcs l.arc)
