use Rattle.std.proofs.Common.{◌≡◌, take}
use Rattle.std.specs.Prelude.{flat_map}
use Rattle.cell_machine.specs.ArcPlaces.{first_naming}
use Rattle.cell_machine.proofs.arc_places.firsts.Given as goal

-- the numbers of the lists so far
abbrev pub invariant-loop-lists : goal.invariant-loop-lists
invariant-loop-lists l = l.firsts ≡ flat_map (flat_map (first_naming l.pins l.named l.input)) (take l.lists-index l.between)
