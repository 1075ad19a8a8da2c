use Rattle.std.proofs.Common.{◌≡◌, ◌<◌, length, map, sym, ap, subst, ◌∙◌}
use Rattle.cell_machine.specs.CellData.{data_of}
use Rattle.cell_machine.specs.CellTrace.{sources_at}
use Rattle.cell_machine.proofs.OutputFacts.{sources_at-is}
use Rattle.scan_cells.specs.declared.views.View.{View}
use Rattle.scan_cells.specs.Views.{view_data}
use Rattle.scan_cells.specs.Places.{in_cell, places_of}
use Rattle.scan_cells.specs.Weights.{weight_of}
use Rattle.scan_cells.specs.Comparison.{output_support}
use Rattle.scan_cells.proofs.MixedPoints.{mask_of}
use Rattle.scan_cells.proofs.output_values.OutputPair.of.Goals as goal

pub invariant_of-result : goal.invariant_of-result
invariant_of-result c =
    let i = c.args.output in
    let j = c.args.view_output in
    let cell = data_of c.args.cell.now in
    let given = view_data c.args.view.now in
    let view = view_data c.of-over.result.view.now in
    let same : given ≡ view = ap view_data (sym c.of-over.ensures.view) in
    let of_cell : c.as_slice-of_cell.result.now ≡ sources_at cell i
    = c.as_slice-of_cell.ensures
    ∙ sym (sources_at-is cell i c.output_pin.result.now c.output_pin.ensures.is) in
    let of_view : c.in_cell-of_view.result ≡ output_support view j
    = c.in_cell-of_view.ensures
    ∙ (ap (map (in_cell given)) (c.as_slice.ensures ∙ sym (sources_at-is given.cell j c.output_pin-2.result.now c.output_pin-2.ensures.is))
    ∙ ap (λ v. output_support v j) same) in
    record {
      in_cell = c.requires.output;
      in_view = subst (λ (v : View). j < length v.cell.outputs) (sym c.of-over.ensures.view) c.requires.view_output;
      are_places = c.of-over.ensures.places ∙ (λ t. places_of cell (of_cell t) ((c.as_slice-2.ensures ∙ of_view) t));
      tells_cell = record {
        of_cell = c.of.ensures.cell;
        of_output = c.of.ensures.output;
        weigh = c.of.ensures.weights ∙ (λ t. map (weight_of (c.as_slice-3.ensures.is t)) (of_cell t));
      };
      tells_view = record {
        of_cell = c.of-2.ensures.cell ∙ ap (λ (v : View). v.cell) (sym c.of-over.ensures.view);
        of_output = c.of-2.ensures.output;
        weigh = c.of-2.ensures.weights ∙ (λ t. map (weight_of (c.as_slice-4.ensures.is t)) ((c.as_slice-5.ensures ∙ of_view) t));
      };
      is_cell_mask =
          mask_of given view c.of-over.result.places c.as_slice-of_cell.result.now (sources_at cell i) c.of-over.result.cell_mask same
          of_cell c.of-over.ensures.cell_mask;
      is_view_mask =
          mask_of given view c.of-over.result.places c.as_slice-2.result.now (output_support view j) c.of-over.result.view_mask same
          (c.as_slice-2.ensures ∙ of_view) c.of-over.ensures.view_mask;
    }
