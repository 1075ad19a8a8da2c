use Rattle.std.proofs.Common.{◌≡◌, ◌++◌, map, drop}
use Rattle.udp_tables.proofs.symbols.cube_symbols.Given as goal

abbrev pub invariant-loop-i : goal.invariant-loop-i
invariant-loop-i g l =
    l.symbols.items ++ map g.S.PlaceSymbol.of_place (drop l.i l.cube) ≡ map g.S.PlaceSymbol.of_place l.cube
