use Rattle.std.proofs.Common.{◌≡◌, ◌++◌, take}
use Rattle.std.specs.Prelude.{flat_map}
use Rattle.cell_machine.specs.ArcPlaces.{first_naming}
use Rattle.cell_machine.proofs.arc_places.add_firsts.Given as goal

-- the numbers of the lists so far are added
abbrev pub invariant-loop-places : goal.invariant-loop-places
invariant-loop-places l = l.firsts ≡ l.initial.firsts ++ flat_map (first_naming l.pins l.named l.input) (take l.places-index l.lists)
