use Rattle.std.proofs.Common.{◌<◌, ◌≤◌, sym, ap, ◌∙◌, length, take, arith, ◌+◌}
use Rattle.std.proofs.lemmas.List.{length-set, take_all}
use Rattle.trit_cubes.proofs.TryingLemmas.{take-written}
use Rattle.row_masks.proofs.column_values.write_news.Goals as goal

pub loop-place-preserved : goal.loop-place-preserved
loop-place-preserved g c =
    let place = c.loop-place.place in
    let news = g.C.ColumnValues.news c.args.values.now in
    let inside : place < c.args.columns = omega arith in
    let written : place < length c.loop-place.room = omega (arith, c.requires.room, c.loop-place.invariant.len) in
    let column : place < length news = omega (arith, c.requires.news) in
    record {
      front =
          ap (take (place + 1)) c.set.ensures
          ∙ take-written c.loop-place.room news place c.change.result.new written column c.change.ensures.new
          c.loop-place.invariant.front;
      len = ap length c.set.ensures ∙ length-set c.loop-place.room place c.change.result.new ∙ c.loop-place.invariant.len;
    }
