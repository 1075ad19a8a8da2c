use Rattle.std.proofs.Common.{◌≡◌, ◌-◌}
use Rattle.trit_cubes.specs.Sets.{point_of}
use Rattle.cell_machine.specs.CellData.{data_of}
use Rattle.cell_machine.specs.CellTrace.{step_at}
use Rattle.step_tables.specs.Turned.{both_steps}
use Rattle.step_tables.proofs.PointLemmas.{from_place}
use Rattle.step_tables.proofs.step_table.StepTable.forced.Given as goal

-- the common value of the points that differ in one of the last places
abbrev pub invariant-loop-behind : goal.invariant-loop-behind
invariant-loop-behind l =
    let point = point_of l.self.places l.number in
    l.value ≡ from_place (both_steps (step_at (data_of l.self.cell.now) l.self.group) point) point (l.self.places - l.behind)
