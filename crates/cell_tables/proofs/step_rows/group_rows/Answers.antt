use Rattle.std.proofs.Common.{◌+◌, ◌≤◌, length, sym, ◌∙◌, ap, subst}
use Rattle.std.specs.List.{All}
use Rattle.cell_machine.specs.CellData.{data_of}
use Rattle.cell_machine.specs.CellTrace.{support_at, step_at}
use Rattle.udp_tables.specs.Edges.{level_row_by, edge_row_by, keep_row_by}
use Rattle.cell_tables.specs.declared.cubes.ChangeCube.{ChangeCube}
use Rattle.cell_tables.specs.declared.cubes.GroupCubes.{GroupCubes}
use Rattle.cell_tables.specs.Cubes.{rows_of_group}
use Rattle.cell_tables.proofs.CubeRows.{group-rows, changes-wide}
use Rattle.cell_tables.proofs.step_rows.group_rows.Goals as goal

pub rows_of_group-requires : goal.rows_of_group-requires
rows_of_group-requires g c =
    let cell = data_of c.args.from.now.cell.now in
    subst (λ (cubes : GroupCubes). All (λ (change : ChangeCube). change.place + 3 ≤ length change.cube) cubes.changes)
    (sym c.group_cubes.ensures)
    (changes-wide (step_at cell c.args.group) (length (support_at cell c.args.group)))

pub returns : goal.returns
returns g c =
    let cell = data_of c.args.from.now.cell.now in
    let maker = c.args.maker in
    let place = g.M.Symbol.PlaceSymbol.of_place in
    let change = g.M.StepRows.of_change in
    let level = level_row_by place (g.M.LevelRows.level_row maker) in
    let report = g.M.StepRows.report_rows maker in
    let edge = edge_row_by place change (g.M.StepRows.change_row maker) in
    let keep = keep_row_by place change (g.M.StepRows.change_row maker) in
    c.in_ok-rows.ensures
    ∙ ap (rows_of_group level report edge keep) c.group_cubes.ensures
    ∙ group-rows edge keep level report (step_at cell c.args.group) (length (support_at cell c.args.group))
