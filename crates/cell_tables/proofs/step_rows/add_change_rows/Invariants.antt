use Rattle.std.proofs.Common.{◌≡◌, ◌++◌, map, drop}
use Rattle.udp_tables.specs.Edges.{edge_row_by, keep_row_by}
use Rattle.cell_tables.specs.Cubes.{change_row}
use Rattle.cell_tables.proofs.step_rows.add_change_rows.Given as goal

abbrev pub invariant-loop-change : goal.invariant-loop-change
invariant-loop-change g l =
    l.rows ++ map (change_row (edge_row_by g.M.Symbol.PlaceSymbol.of_place g.M.StepRows.of_change (g.M.StepRows.change_row l.maker)) (keep_row_by g.M.Symbol.PlaceSymbol.of_place g.M.StepRows.of_change (g.M.StepRows.change_row l.maker))) (drop l.change-index l.changes)
    ≡ l.fn.rows ++ map (change_row (edge_row_by g.M.Symbol.PlaceSymbol.of_place g.M.StepRows.of_change (g.M.StepRows.change_row l.maker)) (keep_row_by g.M.Symbol.PlaceSymbol.of_place g.M.StepRows.of_change (g.M.StepRows.change_row l.maker))) l.changes
