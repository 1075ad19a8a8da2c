use Rattle.std.proofs.Common.{ap, ◌∙◌}
use Rattle.std.specs.Prelude.{position, unwrap_or}
use Rattle.scan_cells.specs.Places.{same_source, is_set}
use Rattle.scan_cells.proofs.MaskLemmas.{weight_in}
use Rattle.scan_cells.proofs.masks.source_mask.Goals as goal

pub returns : goal.returns
returns c =
    let k = unwrap_or (position (same_source c.args.source) c.args.places.now) 0 in
    ap (is_set k) c.source_weight.ensures ∙ weight_in k
