use Rattle.std.proofs.Common.{◌≡◌, ◌++◌, map, drop}
use Rattle.udp_tables.specs.Edges.{level_row_by}
use Rattle.cell_tables.proofs.level_rows.add_level_rows.Given as goal

abbrev pub invariant-loop-cube : goal.invariant-loop-cube
invariant-loop-cube g l =
    l.rows ++ map (level_row_by g.M.Symbol.PlaceSymbol.of_place (g.M.LevelRows.level_row l.maker) l.value) (drop l.cube-index l.cubes)
    ≡ l.fn.rows ++ map (level_row_by g.M.Symbol.PlaceSymbol.of_place (g.M.LevelRows.level_row l.maker) l.value) l.cubes
