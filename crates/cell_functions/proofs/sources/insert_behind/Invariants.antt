use Rattle.std.proofs.Common.{◌≡◌, drop}
use Rattle.std.proofs.Common.{◌+◌, ◌*◌}
use Rattle.cell_attributes.specs.Building.{stands_for}
use Rattle.cell_functions.proofs.sources.insert_behind.Given as goal

abbrev pub invariant-loop-place : goal.invariant-loop-place
invariant-loop-place l = (l.found.items ≡ l.fn.found.items) × (stands_for (l.pins + 2 * l.place) (drop l.place l.groups) l.i ≡ stands_for l.pins l.groups l.i)
