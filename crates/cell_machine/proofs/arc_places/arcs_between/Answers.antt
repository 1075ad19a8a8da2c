use Rattle.std.proofs.Common.{◌∙◌, ap}
use Rattle.cell_machine.specs.CellTrace.{is_between}
use Rattle.cell_machine.proofs.EntryPlaces.{places-more}
use Rattle.cell_machine.proofs.arc_places.arcs_between.Goals as goal

pub loop-i-preserved : goal.loop-i-preserved
loop-i-preserved c =
    let cell = c.args.cell.now in
    places-more (is_between cell.pins c.args.input c.args.pin) cell.arcs c.loop-i.i _ c.leads-found.result c.loop-i.places _
    c.arc.ensures.is (c.leads-found.ensures ∙ ap (λ pins. is_between pins c.args.input c.args.pin c.arc.result.now) c.as_slice.ensures)
    c.loop-i.invariant c.in_ok-add_where.ensures
