use Rattle.std.proofs.Common.{◌≡◌, suc, ◌+◌, bit_and, drop, sym, ap, ◌∙◌, arith}
use Rattle.std.proofs.lemmas.Option.{slice_get-get_or}
use Rattle.row_masks.specs.Masks.{matching}
use Rattle.row_masks.proofs.ColumnLemmas.{matching-step}
use Rattle.row_masks.proofs.rows.matching.Goals as goal

pub loop-place-preserved : goal.loop-place-preserved
loop-place-preserved g c =
    let place = c.loop-place.place in
    let columns = c.args.columns.now in
    let olds = g.C.ColumnValues.olds c.args.values.now in
    let news = g.C.ColumnValues.news c.args.values.now in
    let next : place + 1 ≡ suc place = omega arith in
    ap (λ k. matching (bit_and c.loop-place.left c.at-left.result) (drop k columns) (drop k olds) (drop k news)) next
    ∙ ap (λ m. matching (bit_and c.loop-place.left m) (drop (suc place) columns) (drop (suc place) olds) (drop (suc place) news))
    c.at-left.ensures
    ∙ sym (matching-step c.loop-place.left columns olds news place _ _ _
    (slice_get-get_or columns place _ c.loop-place-test.true) c.change-change.ensures.old c.change-change.ensures.new)
    ∙ c.loop-place.invariant
