use Rattle.std.proofs.Common.{length, ◌∙◌, ap}
use Rattle.cell_machine.specs.CellData.{data_of}
use Rattle.cell_machine.proofs.OutputFacts.{sources_at-is, output_value_at-is}
use Rattle.vital_models.specs.Rows.{truth_rows}
use Rattle.vital_models.proofs.tables.output_table.Goals as goal

pub returns : goal.returns
returns c =
    let cell = data_of c.args.from.now.cell.now in
    let sources = sources_at-is cell c.args.number c.args.output.now c.requires.is in
    let value = output_value_at-is cell c.args.number c.args.output.now c.requires.is in
    ap (λ rows. record { rows = rows }) (c.in_ok-rows.ensures ∙ (λ i. truth_rows (length (sources i)) (value i)))
