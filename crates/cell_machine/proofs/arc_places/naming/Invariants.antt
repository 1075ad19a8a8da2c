use Rattle.std.proofs.Common.{◌≡◌, take}
use Rattle.cell_machine.specs.KeptConditions.{names_input}
use Rattle.cell_machine.specs.Places.{places_from}
use Rattle.cell_machine.proofs.arc_places.naming.Given as goal

-- the numbers of those names so far of which one is the input's
abbrev pub invariant-loop-i : goal.invariant-loop-i
invariant-loop-i l = l.places ≡ places_from (names_input l.pins l.input) 0 (take l.i l.named)
