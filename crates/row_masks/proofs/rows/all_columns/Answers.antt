use Rattle.std.proofs.Common.{◌++◌, ◌∷◌, [], ◌∙◌, sym, arith}
use Rattle.std.proofs.lemmas.List.FromFn.{map-range_with_len_more}
use Rattle.row_masks.specs.Masks.{change_masks}
use Rattle.row_masks.proofs.rows.all_columns.Goals as goal

pub loop-place-preserved : goal.loop-place-preserved
loop-place-preserved g c =
    let at = change_masks g.R.MaskedRow.passes c.args.rows.now in
    c.in_ok-push.ensures.ok
    ∙ (λ j. c.loop-place.invariant j ++ c.change_masks.ensures j ∷ [])
    ∙ sym (map-range_with_len_more at 0 c.loop-place.place c.loop-place.place (omega arith))
