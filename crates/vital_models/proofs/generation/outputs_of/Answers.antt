use Rattle.std.proofs.Common.{[], ◌∷◌, ◌++◌, sym, ◌∙◌, ap, arith}
use Rattle.cell_machine.specs.CellData.{data_of}
use Rattle.vital_models.specs.Generated.{output_of}
use Rattle.vital_models.proofs.ListLemmas.{map-more}
use Rattle.vital_models.proofs.generation.outputs_of.Goals as goal

pub loop-i-preserved : goal.loop-i-preserved
loop-i-preserved c =
    map-more (output_of (data_of c.args.from.now.cell.now)) c.args.from.now.cell.now.outputs c.loop-i.i c.output_pin-output.result.now c.loop-i.outputs c.push.new.self
    (omega (arith, c.loop-i-test.true, c.len-i-end.ensures)) (sym c.output_pin-output.ensures.at)
    (c.in_ok-push.ensures.ok ∙ ap (λ output. c.loop-i.outputs ++ output ∷ []) c.in_ok-output_of.ensures)
    ∙ c.loop-i.invariant
