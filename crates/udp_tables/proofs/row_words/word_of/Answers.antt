use Rattle.std.proofs.Common.{◌-◌, ◌<◌, length, arith}
use Rattle.std.proofs.lemmas.Option.{slice_get-get_or}
use Rattle.udp_tables.proofs.RowWordLemmas.{word-more, word-room}
use Rattle.udp_tables.proofs.row_words.word_of.Goals as goal

pub loop-left-preserved : goal.loop-left-preserved
loop-left-preserved c =
    let values = c.args.values.now in
    let inside : c.loop-left.left - 1 < length values = omega arith in
    record {
      within = omega arith;
      word =
          word-more values c.loop-left.left _ c.trit_bits.result c.loop-left.word c.loop-left-test.true
          (slice_get-get_or values (c.loop-left.left - 1) _ inside) c.trit_bits.ensures.is c.loop-left.invariant.word;
    }

pub overflow_mul-word : goal.overflow_mul-word
overflow_mul-word c =
    omega (arith, word-room c.args.values.now c.loop-left.left c.loop-left.word c.loop-left-test.true c.requires c.loop-left.invariant.word)

pub overflow_add-word : goal.overflow_add-word
overflow_add-word c =
    omega (
      arith,
      word-room c.args.values.now c.loop-left.left c.loop-left.word c.loop-left-test.true c.requires c.loop-left.invariant.word,
      c.trit_bits.ensures.below,
    )
