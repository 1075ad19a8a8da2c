use Rattle.std.proofs.Common.{◌≡◌, ◌++◌, map, drop}
use Rattle.cell_attributes.specs.StateReadings.{numbers_of}
use Rattle.cell_attributes.specs.Shown.{shown_vocabulary}
use Rattle.cell_attributes.proofs.table_inputs.numbers_of.Given as goal

abbrev pub invariant-loop-word : goal.invariant-loop-word
invariant-loop-word l = l.numbers.items ++ numbers_of (shown_vocabulary l.vocabulary) (map (λ word. word.now) (drop l.word-index l.words)) ≡ numbers_of (shown_vocabulary l.vocabulary) (map (λ word. word.now) l.words)
