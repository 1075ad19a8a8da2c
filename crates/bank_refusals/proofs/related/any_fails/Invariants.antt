use Rattle.std.proofs.Common.{◌≡◌, drop, map}
use Rattle.std.specs.List.{list_any}
use Rattle.bank_refusals.specs.Faults.{word_fails}
use Rattle.bank_refusals.proofs.related.any_fails.Given as goal

abbrev pub invariant-loop-word : goal.invariant-loop-word
invariant-loop-word l =
    list_any (word_fails l.place.vectors.now l.place.position) (map (λ word. word.now) (drop l.word-index l.words)) ≡ list_any (word_fails l.place.vectors.now l.place.position) (map (λ word. word.now) l.words)
