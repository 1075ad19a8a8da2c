use Rattle.std.proofs.Common.{[], ◌∷◌, ◌++◌, ◌∙◌, ap, arith}
use Rattle.udp_tables.proofs.SymbolLemmas.{symbols-more}
use Rattle.udp_tables.proofs.symbols.cube_symbols.Goals as goal

pub loop-i-preserved : goal.loop-i-preserved
loop-i-preserved g c =
    symbols-more g.S.PlaceSymbol.of_place _ c.loop-i.i _ _ _ (omega (arith, c.loop-i-test.true, c.len-i-end.ensures.value)) c.place.ensures
    (c.in_ok-push.ensures.items ∙ ap (λ e. c.loop-i.symbols.items ++ e ∷ []) c.of_place.ensures) ∙ c.loop-i.invariant
