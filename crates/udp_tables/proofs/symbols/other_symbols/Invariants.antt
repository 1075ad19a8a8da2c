use Rattle.std.proofs.Common.{◌≡◌, ◌++◌, map, drop}
use Rattle.cell_machine.specs.Machine.{init}
use Rattle.udp_tables.proofs.symbols.other_symbols.Given as goal

abbrev pub invariant-loop-i : goal.invariant-loop-i
invariant-loop-i g l =
    l.symbols.items ++ map g.S.PlaceSymbol.of_place (drop l.i (init l.cube)) ≡ map g.S.PlaceSymbol.of_place (drop 2 (init l.cube))
