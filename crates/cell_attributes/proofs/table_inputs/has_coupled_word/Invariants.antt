use Rattle.std.proofs.Common.{◌≡◌, map, drop}
use Rattle.cell_attributes.specs.StateReadings.{has_coupled_word}
use Rattle.cell_attributes.specs.Shown.{shown_vocabulary}
use Rattle.cell_attributes.proofs.table_inputs.has_coupled_word.Given as goal

abbrev pub invariant-loop-word : goal.invariant-loop-word
invariant-loop-word l = has_coupled_word (shown_vocabulary l.vocabulary) (map (λ word. word.now) (drop l.word-index l.words)) ≡ has_coupled_word (shown_vocabulary l.vocabulary) (map (λ word. word.now) l.words)
