use Rattle.std.proofs.Common.{◌∙◌, ap, arith}
use Rattle.trit_cubes.specs.declared.trits.Trit.TheVariants.{Unknown}
use Rattle.trit_cubes.specs.Filling.{same}
use Rattle.udp_tables.proofs.SymbolLemmas.{get-last}
use Rattle.udp_tables.proofs.cube_index.has_state.Goals as goal

pub returns : goal.returns
returns c =
    c.are_same.ensures
    ∙ ap (same c.args.state)
    (get-last c.args.cube.now _ Unknown c.place.result (omega (arith, c.len.ensures.value, c.requires)) c.place.ensures)
