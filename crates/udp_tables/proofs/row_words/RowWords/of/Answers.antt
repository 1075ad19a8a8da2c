use Rattle.std.proofs.Common.{◌≡◌, length, map, take, sym, ap, ◌∙◌, arith, length-take-le, take_all}
use Rattle.udp_tables.specs.RowWords.{words_of}
use Rattle.udp_tables.proofs.row_words.RowWords.of.Goals as goal

pub slice_bounds-words_of-end : goal.slice_bounds-words_of-end
slice_bounds-words_of-end g c = sym (length-take-le 32 c.args.columns.now (omega arith))

pub words_of-requires-else-columns-le32 : goal.words_of-requires-else-columns-le32
words_of-requires-else-columns-le32 g c =
    let all : length (take 32 c.args.columns.now) ≡ 32 = length-take-le 32 c.args.columns.now (omega arith) in
    omega arith

pub returns-then-columns-le32 : goal.returns-then-columns-le32
returns-then-columns-le32 g c =
    c.words_of.ensures
    ∙ ap (λ xs. words_of (map g.C.Column.level xs)) (sym (take_all 32 c.args.columns.now c.if-columns-le32.true))
