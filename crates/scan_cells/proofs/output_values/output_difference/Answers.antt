use Rattle.std.proofs.Common.{◌≡◌, ap, sym, ◌∙◌, Some, None, rules}
use Rattle.std.specs.Option.{option_map_or}
use Rattle.cell_machine.specs.CellData.{data_of}
use Rattle.scan_cells.specs.Views.{view_data}
use Rattle.scan_cells.specs.Comparison.{output_in_view, output_pin, pair_difference}
use Rattle.scan_cells.proofs.output_values.output_difference.Goals as goal

pub returns-in-Some : goal.returns-in-Some
returns-in-Some c =
    let cell = data_of c.args.cell.now in
    let view = view_data c.args.view.now in
    let found : output_in_view view (output_pin cell c.args.output) ≡ Some c.in-Some.other = search rules in
    c.difference.ensures
    ∙ (λ i. pair_difference (data_of (c.of.ensures.cell i)) (view_data (c.of.ensures.view i)) (c.of.ensures.output i) (c.of.ensures.view_output i))
    ∙ ap (λ o. option_map_or (pair_difference cell view c.args.output) o None) (sym found)
