use Rattle.std.proofs.Common.{◌<◌, ◌∙◌, ap, refl, length, arith}
use Rattle.cell_machine.specs.KeptConditions.{names_input}
use Rattle.cell_machine.proofs.EntryPlaces.{places-more}
use Rattle.std.proofs.lemmas.Option.{slice_get_read}
use Rattle.cell_machine.proofs.arc_places.naming.Goals as goal

pub loop-i-preserved : goal.loop-i-preserved
loop-i-preserved c =
    let named = c.args.named.now in
    let inside : c.loop-i.i < length named = omega arith in
    places-more (names_input c.args.pins.now c.args.input) named c.loop-i.i c.index-named-i.result c.names_input.result c.loop-i.places _
    (slice_get_read named (length named) c.loop-i.i c.index-named-i.result refl inside c.index-named-i.is) (c.names_input.ensures ∙ ap (names_input c.args.pins.now c.args.input) c.as_slice.ensures)
    c.loop-i.invariant c.in_ok-add_where.ensures
