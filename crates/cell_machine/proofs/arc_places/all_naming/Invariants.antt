use Rattle.std.proofs.Common.{◌≡◌, map}
use Rattle.std.specs.List.{range_with_len}
use Rattle.cell_machine.specs.KeptConditions.{names_input}
use Rattle.cell_machine.specs.Places.{places_from}
use Rattle.cell_machine.proofs.arc_places.all_naming.Given as goal

-- the numbers for the inputs so far
abbrev pub invariant-loop-input : goal.invariant-loop-input
invariant-loop-input l = l.all ≡ map (λ input. places_from (names_input l.pins input) 0 l.named) (range_with_len 0 l.input)
