use Rattle.std.proofs.Common.{◌≡◌, drop, map}
use Rattle.std.specs.List.{list_any}
use Rattle.bank_refusals.specs.Fixed.{is_vector_word}
use Rattle.bank_refusals.proofs.fixed.any_vector_word.Given as goal

abbrev pub invariant-loop-word : goal.invariant-loop-word
invariant-loop-word l =
    list_any (is_vector_word l.vectors) (map (λ word. word.now) (drop l.word-index l.words))
    ≡ list_any (is_vector_word l.vectors) (map (λ word. word.now) l.words)
