use Rattle.std.proofs.Common.{◌≡◌, map}
use Rattle.std.specs.Prelude.{flat_map}
use Rattle.std.specs.List.{range_with_len}
use Rattle.cell_machine.specs.ArcPlaces.{first_naming}
use Rattle.cell_machine.proofs.arc_places.all_firsts.Given as goal

-- the numbers for the inputs so far
abbrev pub invariant-loop-input : goal.invariant-loop-input
invariant-loop-input l =
    l.all ≡ map (λ input. flat_map (flat_map (first_naming l.pins l.named input)) l.between) (range_with_len 0 l.input)
