use Rattle.scan_cells.specs.Views.{view_data}
use Rattle.scan_cells.proofs.MaskLemmas.{enable_more, are_also}
use Rattle.scan_cells.proofs.masks.mask_of.Goals as goal

pub returns : goal.returns
returns c = record {
  of_support = are_also c.args.places.now c.args.support.now c.enable_mask.result c.support_mask.result c.support_mask.ensures;
  of_enable = enable_more (view_data c.args.view.now) c.args.places.now c.enable_mask.result c.support_mask.result c.enable_mask.ensures;
}
