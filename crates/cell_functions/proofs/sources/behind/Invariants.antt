use Rattle.std.proofs.Common.{◌≡◌, drop}
use Rattle.std.proofs.Common.{[]}
use Rattle.std.specs.Prelude.{flat_map}
use Rattle.bool_functions.specs.Support.{insert_all}
use Rattle.cell_attributes.specs.Building.{stands_for}
use Rattle.cell_functions.proofs.sources.behind.Given as goal

abbrev pub invariant-loop-i : goal.invariant-loop-i
invariant-loop-i l = insert_all l.found.items (flat_map (stands_for l.pins l.groups) (drop l.i-index l.names)) ≡ insert_all [] (flat_map (stands_for l.pins l.groups) l.names)
