-- The points over some places as those over a support.
use Rattle.std.specs.Prelude.{◌≡◌, ℕ, ◌+◌, ◌*◌, ◌/◌, ◌%◌, ◌^◌, ◌==◌, Bool, not, List, map, position, unwrap_or, bit_and}
use Rattle.std.specs.List.{range_with_len}
use Rattle.trit_cubes.specs.Filling.{number}
use Rattle.trit_cubes.specs.Sets.{point_of}
use Rattle.trit_cubes.specs.declared.trits.Trit.{Trit}
use Rattle.cell_machine.specs.declared.outputs.Source.{Source}
use Rattle.cell_machine.specs.CellData.{CellData}
use Rattle.cell_machine.specs.CellTrace.{output_value_at}
use Rattle.scan_cells.specs.Places.{same_source}

-- what the place of a source weighs
abbrev pub weight_of : List Source → Source → ℕ
weight_of places s = 2 ^ unwrap_or (position (same_source s) places) 0

-- whether the place with this weight is 1 at a point
abbrev pub has_weight : ℕ → ℕ → Bool
has_weight point weight = not (bit_and point weight == 0)

-- the values at a point of the places with these weights
abbrev pub weighed : List ℕ → ℕ → List Bool
weighed weights point = map (has_weight point) weights

-- the values of output i at all points of so many places, in the order of their numbers
abbrev pub output_values : CellData → ℕ → ℕ → List Trit
output_values cell i places = map (λ k. output_value_at cell i (point_of places k)) (range_with_len 0 (2 ^ places))

-- the numbers that the first so many multiples of a point have over the places with these weights
abbrev pub numbers_of : List ℕ → ℕ → ℕ → List ℕ
numbers_of weights unit count = map (λ k. number (weighed weights (unit * k))) (range_with_len 0 count)

-- a point's number over the places with these weights is that of its low byte and that of what stands above it
pub record IsSplit (weights : List ℕ) : Type 0 where
  pub at : (point : ℕ)
      → number (weighed weights (1 * (point % 256))) + number (weighed weights (256 * (point / 256)))
      ≡ number (weighed weights point)
