use Rattle.std.proofs.Common.{◌≡◌, drop, map}
use Rattle.grammar_reader.specs.WordValues.{value_among}
use Rattle.grammar_reader.proofs.word_values.value_of.Given as goal

abbrev pub invariant-loop-word : goal.invariant-loop-word
invariant-loop-word g l =
    value_among g.L.Language.is_same (map (λ word. (word.0.now, word.1)) (drop l.word-index l.words)) l.token
    ≡ value_among g.L.Language.is_same (map (λ word. (word.0.now, word.1)) l.words) l.token
