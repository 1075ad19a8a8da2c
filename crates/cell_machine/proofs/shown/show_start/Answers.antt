use Rattle.std.proofs.Common.{◌<◌, ◌∙◌, length, None, add-one, arith}
use Rattle.cell_machine.specs.declared.shown.Shown.{Shown}
use Rattle.cell_machine.specs.ShownOutputs.{shown_first}
use Rattle.cell_machine.proofs.ArcDelays.{some_at}
use Rattle.cell_machine.proofs.EachLemmas.{map-take-more}
use Rattle.cell_machine.proofs.shown.show_start.Goals as goal

pub loop-i-preserved : goal.loop-i-preserved
loop-i-preserved c =
    let cell = c.args.cell.now in
    let inside : c.loop-i.i < length cell.outputs = omega (arith, c.len-i-end.ensures) in
    let here = some_at cell.outputs c.loop-i.i inside in
    let first : Shown = record { value = c.output_value-value.result; delay = None } in
    rw add-one
    (c.in_ok-push.ensures.ok
    ∙ map-take-more (shown_first cell.pins cell.groups c.args.inputs.now c.args.states.now) cell.outputs c.loop-i.i here.0
    first c.loop-i.shown here.1 (λ j. record { value = c.output_value-value.ensures here.0 here.1 j; delay = None }) c.loop-i.invariant)
