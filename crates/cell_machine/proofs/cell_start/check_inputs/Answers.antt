use Rattle.std.proofs.Common.{◌∙◌, ap, add-one}
use Rattle.cell_machine.specs.declared.checks.Check.{Check}
use Rattle.cell_machine.specs.Inputs.{input_number}
use Rattle.cell_machine.proofs.EachLemmas.{map-take-more}
use Rattle.cell_machine.proofs.cell_start.check_inputs.Goals as goal

pub loop-i-preserved : goal.loop-i-preserved
loop-i-preserved c =
    let cell = c.args.cell.now in
    rw add-one
    (c.in_ok-push.ensures.ok
    ∙ map-take-more (λ (k : Check). input_number cell.pins k.second.pin) cell.checks c.loop-i.i c.check.result.now
    c.input_number.result c.loop-i.inputs c.check.ensures.is
    (c.input_number.ensures ∙ ap (λ pins. input_number pins c.check.result.now.second.pin) c.as_slice.ensures) c.loop-i.invariant)
