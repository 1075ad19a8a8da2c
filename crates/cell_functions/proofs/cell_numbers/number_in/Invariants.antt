use Rattle.std.proofs.Common.{◌≡◌, map, drop}
use Rattle.std.proofs.Common.{◌+◌, ◌*◌}
use Rattle.cell_attributes.specs.Building.{number_in}
use Rattle.cell_attributes.specs.Shown.{shown_state}
use Rattle.cell_functions.proofs.cell_numbers.number_in.Given as goal

abbrev pub invariant-loop-place : goal.invariant-loop-place
invariant-loop-place l = number_in (map shown_state (drop l.place l.states)) (l.pins + 2 * l.place) l.name ≡ number_in (map shown_state l.states) l.pins l.name
