use Rattle.std.proofs.Common.{◌≤◌, ◌∷◌, ◌++◌, map, take, drop, length, ◌∙◌, ap, arith}
use Rattle.cell_machine.specs.Machine.{init, insert}
use Rattle.udp_tables.proofs.SymbolLemmas.{others-long, insert-parts, change_columns-is}
use Rattle.udp_tables.proofs.symbols.change_symbols.Goals as goal

pub insert-requires : goal.insert-requires
insert-requires g c =
    let long : 3 ≤ length c.args.cube.now = omega (arith, c.requires) in
    omega (arith, c.requires, c.in_ok-symbols.symbols.ok, ap length c.in_ok-symbols.ensures, others-long g.M.Symbol.PlaceSymbol.of_place c.args.cube.now long)

pub returns : goal.returns
returns g c =
    let place = g.M.Symbol.PlaceSymbol.of_place in
    let others = map place (drop 2 (init c.args.cube.now)) in
    let long : 3 ≤ length c.args.cube.now = omega (arith, c.requires) in
    c.in_ok-insert.ensures.items
    ∙ ap (λ es. take c.args.place es ++ c.of_change-change.result ∷ drop c.args.place es) c.in_ok-symbols.ensures
    ∙ insert-parts c.args.place c.of_change-change.result others (omega (arith, c.requires, others-long place c.args.cube.now long))
    ∙ ap (λ e. insert c.args.place e others) c.of_change-change.ensures
    ∙ change_columns-is place g.M.StepRows.of_change c.args.place c.args.cube.now c.place.result c.place-2.result long c.place.ensures c.place-2.ensures
