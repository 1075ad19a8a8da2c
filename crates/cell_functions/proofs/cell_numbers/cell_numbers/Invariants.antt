use Rattle.std.proofs.Common.{◌≡◌, ◌++◌, map, drop}
use Rattle.cell_attributes.specs.Building.{numbers_from, cell_numbers}
use Rattle.cell_attributes.specs.Shown.{shown_state, shown_vocabulary}
use Rattle.cell_functions.proofs.cell_numbers.cell_numbers.Given as goal

abbrev pub invariant-loop-i : goal.invariant-loop-i
invariant-loop-i l = l.numbers.items ++ numbers_from (map shown_state l.states) l.pins l.vocabulary.classes.items l.i (map (λ name. name.now) (drop l.i l.vocabulary.targets.items)) ≡ cell_numbers (map shown_state l.states) l.pins (shown_vocabulary l.vocabulary)
