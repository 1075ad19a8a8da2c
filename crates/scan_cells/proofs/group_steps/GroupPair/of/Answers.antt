use Rattle.std.proofs.Common.{◌≡◌, map, sym, ap, ◌∙◌}
use Rattle.cell_machine.specs.CellData.{data_of}
use Rattle.cell_machine.proofs.GroupSteps.{support_at-is}
use Rattle.scan_cells.specs.declared.views.View.{View}
use Rattle.scan_cells.specs.Views.{view_data}
use Rattle.scan_cells.specs.Places.{pin_sources, in_cell, places_of}
use Rattle.scan_cells.specs.Weights.{weight_of}
use Rattle.scan_cells.specs.Comparison.{cell_support, view_support}
use Rattle.scan_cells.proofs.MixedPoints.{mask_of}
use Rattle.scan_cells.proofs.group_steps.GroupPair.of.Goals as goal

pub invariant_of-result : goal.invariant_of-result
invariant_of-result c =
    let cell = data_of c.args.cell.now in
    let given = view_data c.args.view.now in
    let view = view_data c.of-over.result.view.now in
    let g = c.args.group in
    let same : given ≡ view = ap view_data (sym c.of-over.ensures.view) in
    let of_cell : c.pin_sources-of_cell.result ≡ cell_support cell g
    = c.pin_sources-of_cell.ensures ∙ ap pin_sources (c.as_slice.ensures ∙ sym (support_at-is cell g c.group.result.now c.group.ensures.is)) in
    let of_view : c.in_cell-of_view.result ≡ view_support view g
    = c.in_cell-of_view.ensures
    ∙ (ap (map (in_cell given)) (c.as_slice-3.ensures ∙ (c.pin_sources-of_view.ensures
    ∙ ap pin_sources (c.as_slice-2.ensures ∙ sym (support_at-is given.cell g c.group-2.result.now c.group-2.ensures.is))))
    ∙ ap (λ v. view_support v g) same) in
    record {
      are_places =
          c.of-over.ensures.places
          ∙ (λ i. places_of cell ((c.as_slice-4.ensures ∙ of_cell) i) ((c.as_slice-5.ensures ∙ of_view) i));
      inside = c.requires.group;
      tells_cell = record {
        of_cell = c.of.ensures.cell;
        of_group = c.of.ensures.group;
        weigh =
            c.of.ensures.weights ∙ (λ i. map (weight_of (c.as_slice-6.ensures.is i)) ((c.as_slice-7.ensures ∙ of_cell) i));
      };
      tells_view = record {
        of_cell = c.of-2.ensures.cell ∙ ap (λ (v : View). v.cell) (sym c.of-over.ensures.view);
        of_group = c.of-2.ensures.group;
        weigh =
            c.of-2.ensures.weights ∙ (λ i. map (weight_of (c.as_slice-8.ensures.is i)) ((c.as_slice-9.ensures ∙ of_view) i));
      };
      is_cell_mask =
          mask_of given view c.of-over.result.places c.as_slice-4.result.now (cell_support cell g) c.of-over.result.cell_mask same
          (c.as_slice-4.ensures ∙ of_cell) c.of-over.ensures.cell_mask;
      is_view_mask =
          mask_of given view c.of-over.result.places c.as_slice-5.result.now (view_support view g) c.of-over.result.view_mask same
          (c.as_slice-5.ensures ∙ of_view) c.of-over.ensures.view_mask;
    }
