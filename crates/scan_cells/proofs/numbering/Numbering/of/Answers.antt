use Rattle.std.proofs.Common.{◌≡◌, ℕ, ◌*◌, List, length, sym, ap, ◌∙◌}
use Rattle.std.proofs.lemmas.List.FromFn.{length-map-range_with_len}
use Rattle.trit_cubes.specs.Filling.{number}
use Rattle.scan_cells.specs.Weights.{weighed, numbers_of}
use Rattle.scan_cells.proofs.WeightLemmas.{is_split}
use Rattle.scan_cells.proofs.numbering.Numbering.of.Goals as goal

-- numbers that are kept, by how many they are
kept_as : (slice weights numbers : List ℕ) (unit count : ℕ) → slice ≡ weights → numbers ≡ numbers_of slice unit count
    → numbers ≡ numbers_of weights unit (length numbers)
kept_as slice weights numbers unit count same is =
    let long : length numbers ≡ count
    = ap length is ∙ length-map-range_with_len (λ k. number (weighed slice (unit * k))) 0 count in
    is ∙ (λ i. numbers_of (same i) unit (sym long i))

pub invariant_of-result-clause-is_split : goal.invariant_of-result-clause-is_split
invariant_of-result-clause-is_split c = is_split c.args.places.now c.args.support.now c.weights_of-weights.result c.weights_of-weights.ensures.is

pub invariant_of-result-clause-are_low : goal.invariant_of-result-clause-are_low
invariant_of-result-clause-are_low c =
    kept_as c.as_slice.result.now c.weights_of-weights.result c.numbers_of.result 1 c.point_count-low.result c.as_slice.ensures
    c.numbers_of.ensures

pub invariant_of-result-clause-are_high : goal.invariant_of-result-clause-are_high
invariant_of-result-clause-are_high c =
    kept_as c.as_slice-2.result.now c.weights_of-weights.result c.numbers_of-2.result 256 c.point_count-high.result c.as_slice-2.ensures
    c.numbers_of-2.ensures
