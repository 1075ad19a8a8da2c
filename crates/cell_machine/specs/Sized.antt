-- Each line of a cell has an entry for each output and each check.
use Rattle.std.proofs.Common.{◌∙◌}
use Rattle.std.proofs.lemmas.List.{length-map}
use Rattle.cell_machine.specs.CellData.{CellData}
use Rattle.cell_machine.specs.Report.{report}
use Rattle.cell_machine.specs.Lines.{IsSized}
use Rattle.cell_machine.specs.CellTrace.{inputs_of, input_check, input_checks, output_after, delay_after, cell_machine_of}

pub cell_machine_sized : (cell : CellData) → IsSized (cell_machine_of cell)
cell_machine_sized cell =
    record {
      values = λ h. length-map cell.outputs (output_after cell h);
      delays = λ h. length-map cell.outputs (delay_after cell h);
      reports = λ h.
          length-map (input_checks cell) (λ k. report (inputs_of cell) k h)
          ∙ length-map cell.checks (input_check cell.pins);
    }
