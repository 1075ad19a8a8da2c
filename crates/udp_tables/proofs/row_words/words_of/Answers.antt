use Rattle.std.proofs.Common.{◌-◌, ◌<◌, Some, ap, sym, ◌∙◌, length, arith}
use Rattle.std.proofs.lemmas.Option.{slice_get-get_or}
use Rattle.udp_tables.proofs.RowWordLemmas.{words-more, words-room}
use Rattle.udp_tables.proofs.row_words.words_of.Goals as goal

pub loop-left-preserved : goal.loop-left-preserved
loop-left-preserved g c =
    let columns = c.args.columns.now in
    let column = c.index-columns-left.result in
    let inside : c.loop-left.left - 1 < length columns = omega arith in
    record {
      within = omega arith;
      words =
          words-more g.C.Column.level columns c.loop-left.left column c.level.result c.loop-left.words c.after-words.result
          c.loop-left-test.true (slice_get-get_or columns (c.loop-left.left - 1) column inside ∙ ap Some (sym c.index-columns-left.is))
          c.level.ensures c.loop-left.invariant.words c.after-words.ensures;
    }

pub after-words-requires : goal.after-words-requires
after-words-requires g c =
    let room =
    words-room g.C.Column.level c.args.columns.now c.loop-left.left c.loop-left.words c.loop-left-test.true c.requires
    c.loop-left.invariant.words in
    record { asked = room.0; values = room.1 }
