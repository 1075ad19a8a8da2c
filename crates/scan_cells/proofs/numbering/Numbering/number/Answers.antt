use Rattle.std.proofs.Common.{◌≡◌, ℕ, ◌+◌, ◌*◌, ◌/◌, ◌%◌, ◌^◌, ◌<◌, List, length, slice_index_or, subst, sym, ap, ◌∙◌, arith}
use Rattle.std.proofs.lemmas.List.{length-map}
use Rattle.std.proofs.lemmas.List.FromFn.{get_or-map-range_with_len}
use Rattle.std.proofs.lemmas.Nat.{pow_below}
use Rattle.trit_cubes.specs.Filling.{number}
use Rattle.trit_cubes.proofs.PointLemmas.{number-below}
use Rattle.scan_cells.specs.Weights.{weighed, has_weight, numbers_of, IsSplit}
use Rattle.scan_cells.proofs.numbering.Numbering.number.Goals as goal

-- one of the numbers that are kept
kept_number : (weights numbers : List ℕ) (unit k d : ℕ) → numbers ≡ numbers_of weights unit (length numbers) → k < length numbers
    → slice_index_or numbers k d ≡ number (weighed weights (unit * k))
kept_number weights numbers unit k d are below =
    ap (λ (xs : List ℕ). slice_index_or xs k d) are
    ∙ get_or-map-range_with_len (λ (j : ℕ). number (weighed weights (unit * j))) 0 (length numbers) k k d below (omega arith)

sum_is :
    (weights low high : List ℕ) (point d e : ℕ) → IsSplit weights → low ≡ numbers_of weights 1 (length low)
    → high ≡ numbers_of weights 256 (length high) → point % 256 < length low → point / 256 < length high
    → slice_index_or low (point % 256) d + slice_index_or high (point / 256) e ≡ number (weighed weights point)
sum_is weights low high point d e split are_low are_high in_low in_high =
    (λ i. kept_number weights low 1 (point % 256) d are_low in_low i + kept_number weights high 256 (point / 256) e are_high in_high i)
    ∙ split.at point

number-small : (weights : List ℕ) (point n : ℕ) → n ≡ number (weighed weights point) → n < 2 ^ length weights
number-small weights point n is =
    subst (λ m. n < 2 ^ m) (length-map weights (has_weight point))
    (subst (λ m. m < 2 ^ length (weighed weights point)) (sym is) (number-below (weighed weights point)))

kept_as : (xs numbers weights : List ℕ) (unit : ℕ) → xs ≡ numbers → numbers ≡ numbers_of weights unit (length numbers)
    → xs ≡ numbers_of weights unit (length xs)
kept_as xs numbers weights unit same are = subst (λ (l : List ℕ). l ≡ numbers_of weights unit (length l)) (sym same) are

pub overflow_add-lows : goal.overflow_add-lows
overflow_add-lows c =
    let self = c.args.self.now in
    let is = sum_is self.weights c.as_slice-lows.result.now c.as_slice-highs.result.now c.args.point 0 0 self.is_split
    (kept_as _ self.low self.weights 1 c.as_slice-lows.ensures self.are_low)
    (kept_as _ self.high self.weights 256 c.as_slice-highs.ensures self.are_high) c.if-low-lows.false c.if-high-highs.false in
    let below = number-small self.weights c.args.point _ is in
    let most = pow_below (length self.weights) 11 (omega (arith, self.few)) in
    omega (arith, below, most)

pub returns-clause-is : goal.returns-clause-is
returns-clause-is c =
    let self = c.args.self.now in
    c.from-2.ensures
    ∙ sum_is self.weights c.as_slice-lows.result.now c.as_slice-highs.result.now c.args.point 0 0 self.is_split
    (kept_as _ self.low self.weights 1 c.as_slice-lows.ensures self.are_low)
    (kept_as _ self.high self.weights 256 c.as_slice-highs.ensures self.are_high) c.if-low-lows.false c.if-high-highs.false

pub returns-clause-small : goal.returns-clause-small
returns-clause-small c =
    let self = c.args.self.now in
    number-small self.weights c.args.point _
    (c.from-2.ensures
    ∙ sum_is self.weights c.as_slice-lows.result.now c.as_slice-highs.result.now c.args.point 0 0 self.is_split
    (kept_as _ self.low self.weights 1 c.as_slice-lows.ensures self.are_low)
    (kept_as _ self.high self.weights 256 c.as_slice-highs.ensures self.are_high) c.if-low-lows.false c.if-high-highs.false)
