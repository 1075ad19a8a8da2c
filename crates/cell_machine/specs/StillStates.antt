-- Steps that leave the state.
use Rattle.std.specs.Prelude.{Bool, ◌&&◌, ◌/◌, List, length, take, drop}
use Rattle.std.specs.List.{list_all}
use Rattle.trit_cubes.specs.declared.trits.Trit.{Trit}
use Rattle.trit_cubes.specs.declared.trits.Trit.TheVariants.{Zero, One}
use Rattle.trit_cubes.specs.Filling.{same}

-- Of the values of a step at all points, each at the number of its point, those where the state is 0 are 0 and the others are 1.
-- The state is the last place of a point, so the points where it is 0 are the first half.
abbrev pub leaves_state : List Trit → Bool
leaves_state values =
    list_all (same Zero) (take (length values / 2) values) && list_all (same One) (drop (length values / 2) values)
