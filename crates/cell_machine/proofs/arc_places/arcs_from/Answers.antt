use Rattle.std.proofs.Common.{◌∙◌, add-one}
use Rattle.cell_machine.specs.declared.outputs.OutputPin.{OutputPin}
use Rattle.cell_machine.specs.CellData.{data_of}
use Rattle.cell_machine.specs.ArcPlaces.{arcs_between}
use Rattle.cell_machine.proofs.EachLemmas.{map-take-more}
use Rattle.cell_machine.proofs.arc_places.arcs_from.Goals as goal

pub loop-i-preserved : goal.loop-i-preserved
loop-i-preserved c =
    let cell = c.args.cell.now in
    rw add-one
    (c.in_ok-push.ensures.ok
    ∙ map-take-more (λ (output : OutputPin). arcs_between (data_of cell) c.args.input output.pin) cell.outputs c.loop-i.i
    c.output_pin.result.now _ c.loop-i.lists c.output_pin.ensures.is c.in_ok-arcs_between.ensures c.loop-i.invariant)
