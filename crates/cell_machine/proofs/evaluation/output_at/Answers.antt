use Rattle.std.proofs.Common.{◌∙◌, sym, ap}
use Rattle.cell_machine.specs.CellData.{data_of}
use Rattle.cell_machine.proofs.OutputFacts.{output_value_at-is}
use Rattle.cell_machine.proofs.evaluation.output_at.Goals as goal

pub returns : goal.returns
returns c =
    (rw (c.values_at-values.ensures, c.as_slice-sources.ensures) at c.chosen_from.ensures)
    ∙ sym (ap (λ value. value c.args.point.now) (output_value_at-is (data_of c.args.cell.now) c.args.output c.output_pin-output.result.now c.output_pin-output.ensures.is))
