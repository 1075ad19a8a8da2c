use Rattle.std.proofs.Common.{◌≡◌, length, map, take, sym, ap, ◌∙◌, arith, length-take-le, take_all}
use Rattle.udp_tables.specs.RowWords.{level_of, words_of}
use Rattle.udp_tables.proofs.row_words.value_word.Goals as goal

pub slice_bounds-word_of-end : goal.slice_bounds-word_of-end
slice_bounds-word_of-end c = sym (length-take-le 32 c.args.values.now (omega arith))

pub word_of-requires-else-values-le32 : goal.word_of-requires-else-values-le32
word_of-requires-else-values-le32 c =
    let all : length (take 32 c.args.values.now) ≡ 32 = length-take-le 32 c.args.values.now (omega arith) in
    omega arith

pub returns-then-values-le32 : goal.returns-then-values-le32
returns-then-values-le32 c =
    c.word_of.ensures
    ∙ ap (λ xs. (words_of (map level_of xs)).values) (sym (take_all 32 c.args.values.now c.if-values-le32.true))
