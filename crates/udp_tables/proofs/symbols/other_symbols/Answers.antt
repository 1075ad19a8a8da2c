use Rattle.std.proofs.Common.{◌≡◌, ◌+◌, [], ◌∷◌, ◌++◌, map, length, ◌∙◌, sym, ap, arith, append-nil}
use Rattle.std.proofs.lemmas.List.{drop_all}
use Rattle.cell_machine.specs.Machine.{init}
use Rattle.udp_tables.proofs.SymbolLemmas.{symbols-more, init-long, get-init}
use Rattle.udp_tables.proofs.symbols.other_symbols.Goals as goal

pub loop-i-preserved : goal.loop-i-preserved
loop-i-preserved g c =
    let long : length (init c.args.cube.now) + 1 ≡ length c.args.cube.now = init-long c.args.cube.now (omega (arith, c.requires)) in
    symbols-more g.S.PlaceSymbol.of_place (init c.args.cube.now) c.loop-i.i _ _ _
    (omega (arith, long, c.loop-i-test.true, c.len-i-end.ensures.value))
    (get-init c.args.cube.now c.loop-i.i _ (omega (arith, c.loop-i-test.true, c.len-i-end.ensures.value)) c.place.ensures)
    (c.in_ok-push.ensures.items ∙ ap (λ e. c.loop-i.symbols.items ++ e ∷ []) c.of_place.ensures) ∙ c.loop-i.invariant

pub returns : goal.returns
returns g c =
    let long : length (init c.args.cube.now) + 1 ≡ length c.args.cube.now = init-long c.args.cube.now (omega (arith, c.requires)) in
    sym (append-nil c.loop-i.symbols.items)
    ∙ ap (λ ts. c.loop-i.symbols.items ++ map g.S.PlaceSymbol.of_place ts)
    (sym (drop_all c.loop-i.i (init c.args.cube.now) (omega (arith, long, c.loop-i-test.false, c.len-i-end.ensures.value))))
    ∙ c.loop-i.invariant
