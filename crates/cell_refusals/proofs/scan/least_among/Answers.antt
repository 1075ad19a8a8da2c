use Rattle.std.proofs.Common.{◌∙◌, ap}
use Rattle.cell_machine.specs.Delay.{lesser}
use Rattle.cell_machine.proofs.LeastLemmas.{least_more}
use Rattle.cell_refusals.proofs.scan.least_among.Goals as goal

pub loop-item-preserved : goal.loop-item-preserved
loop-item-preserved g c =
    least_more (g.S.Scan.places c.args.scan.now) c.args.items.now c.loop-item.item-index c.item-item.result c.loop-item.found c.lesser-found.result
    c.loop-item-test.true c.item-item.is (c.lesser-found.ensures ∙ ap (lesser c.loop-item.found) c.least_in.ensures)
    ∙ c.loop-item.invariant
