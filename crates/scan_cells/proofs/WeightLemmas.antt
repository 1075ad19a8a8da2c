-- The values of a support's sources, by their weights.
use Rattle.std.proofs.Common.{◌≡◌, ℕ, zero, suc, ◌+◌, ◌*◌, ◌^◌, ◌<◌, false, not, nat_eq, List, [], ◌∷◌, ◌++◌, length, map}
use Rattle.std.proofs.Common.{take, refl, sym, ap, subst, ◌∙◌, inl, inr, arith, ◌/◌, ◌%◌, slice_index_or}
use Rattle.std.specs.Prelude.{Option, None, Some, IfSome, position, unwrap_or}
use Rattle.std.specs.Int.{bit_at}
use Rattle.std.proofs.lemmas.Bool.{ne_eqb, cases_lt}
use Rattle.std.proofs.lemmas.List.{length-map}
use Rattle.std.proofs.lemmas.Option.{slice_get-get_or}
use Rattle.std.proofs.lemmas.Nat.{pow_pos}
use Rattle.std.proofs.lemmas.Nat.Bits.{and_pow, bit_at-lt, bit_at-zero, bit_at_above, bit_at_cat_low, bit_at_cat_high}
use Rattle.trit_cubes.specs.Filling.{bit, number}
use Rattle.trit_cubes.specs.Sets.{point_of}
use Rattle.trit_cubes.proofs.PointLemmas.{point_of-number}
use Rattle.cell_machine.specs.declared.outputs.Source.{Source}
use Rattle.cell_machine.specs.declared.cells.Cell.{Cell}
use Rattle.cell_machine.specs.CellData.{data_of}
use Rattle.cell_machine.proofs.EachLemmas.{map-take-more}
use Rattle.cell_machine.specs.CellTrace.{output_value_at}
use Rattle.step_tables.specs.GroupPoints.{steps_between}
use Rattle.scan_cells.specs.Places.{same_source, is_set, value_at, values_at}
use Rattle.scan_cells.specs.declared.point_steps.PointSteps.{PointSteps}
use Rattle.scan_cells.specs.declared.output_table.OutputTable.{OutputTable}
use Rattle.scan_cells.specs.OverPlaces.{AreSteps, AreValues}
use Rattle.scan_cells.specs.Weights.{weight_of, has_weight, weighed, IsSplit}

positive : (m : ℕ) → 0 < m → nat_eq m 0 ≡ false
positive m h = ne_eqb m 0 (λ e. omega (arith, e, h))

bit_weighs : (b m : ℕ) → b < 2 → 0 < m → not (nat_eq (b * m) 0) ≡ nat_eq b 1
bit_weighs zero m h l = let e : 0 * m ≡ 0 = omega arith in ap (λ n. not (nat_eq n 0)) e
bit_weighs (suc zero) m h l =
    let e : 1 * m ≡ m = omega arith in
    ap (λ n. not (nat_eq n 0)) e ∙ ap not (positive m l)
bit_weighs (suc (suc b)) m h l = absurd (omega (arith, h))

weight_set : (point k : ℕ) → has_weight point (2 ^ k) ≡ is_set k point
unfolding is_set
weight_set point k =
    ap (λ n. not (nat_eq n 0)) (and_pow point k) ∙ bit_weighs (bit_at point k) (2 ^ k) (bit_at-lt point k) (pow_pos k)

weighed_values :
    (places support : List Source) (point : ℕ) → weighed (map (weight_of places) support) point ≡ values_at places support point
unfolding value_at
weighed_values places [] point = refl
weighed_values places (s ∷ support) point =
    λ i. weight_set point (unwrap_or (position (same_source s) places) 0) i ∷ weighed_values places support point i

-- the point that the number stands for
pub numbered : (weights : List ℕ) (point : ℕ) → point_of (length weights) (number (weighed weights point)) ≡ weighed weights point
numbered weights point =
    ap (λ n. point_of n (number (weighed weights point))) (sym (length-map weights (has_weight point)))
    ∙ point_of-number (weighed weights point)

-- the values of a support by its weights
pub values_weighed :
    (from places support : List Source) (weights : List ℕ) (point : ℕ) → weights ≡ map (weight_of from) support → from ≡ places
    → weighed weights point ≡ values_at places support point
values_weighed from places support weights point are same_places =
    ap (λ ws. weighed ws point) (are ∙ ap (λ ps. map (weight_of ps) support) same_places) ∙ weighed_values places support point

-- the steps by the weights of a support
pub are_steps :
    (cell : Cell) (g : ℕ) (from places support : List Source) (steps : PointSteps) (before after : ℕ)
    → AreSteps cell g from support steps → from ≡ places
    → steps_between (data_of steps.table.cell.now) steps.table.group (weighed steps.numbering.weights before)
    (weighed steps.numbering.weights after)
    ≡ steps_between (data_of cell) g (values_at places support before) (values_at places support after)
are_steps cell g from places support steps before after h same =
    λ i. steps_between (data_of (h.of_cell i)) (h.of_group i)
    (values_weighed from places support steps.numbering.weights before h.weigh same i)
    (values_weighed from places support steps.numbering.weights after h.weigh same i)

-- an output's value by the weights of its support
pub is_value :
    (cell : Cell) (k : ℕ) (from places support : List Source) (values : OutputTable) (point : ℕ)
    → AreValues cell k from support values → from ≡ places
    → output_value_at (data_of values.cell.now) values.output (weighed values.numbering.weights point)
    ≡ output_value_at (data_of cell) k (values_at places support point)
is_value cell k from places support values point h same =
    λ i. output_value_at (data_of (h.of_cell i)) (h.of_output i)
    (values_weighed from places support values.numbering.weights point h.weigh same i)

-- one source more has its weight
pub weights_turn :
    (places support : List Source) (i : ℕ) (d : Source) (weights next : List ℕ) (w : ℕ) → i < length support
    → w ≡ weight_of places (slice_index_or support i d) → next ≡ weights ++ w ∷ []
    → weights ≡ map (weight_of places) (take i support) → next ≡ map (weight_of places) (take (i + 1) support)
weights_turn places support i d weights next w l is more so_far =
    let count : suc i ≡ i + 1 = omega arith in
    more
    ∙ map-take-more (weight_of places) support i (slice_index_or support i d) w weights (slice_get-get_or support i d l) is so_far
    ∙ ap (λ n. map (weight_of places) (take n support)) count

pub few_place : (o : Option ℕ) → IfSome o (λ k. k < 20) → unwrap_or o 0 < 20
few_place None h = omega arith
few_place (Some k) h = h

-- a weight is a power of 2
record IsPower (weight : ℕ) : Type 0 where
  pub place : ℕ
  pub is : weight ≡ 2 ^ place

bit_of : (b : ℕ) → b < 2 → bit (nat_eq b 1) ≡ b
bit_of zero h = refl
bit_of (suc zero) h = refl
bit_of (suc (suc b)) h = absurd (omega (arith, h))

weight_bit : (point k : ℕ) → bit (has_weight point (2 ^ k)) ≡ bit_at point k
unfolding is_set
weight_bit point k = ap bit (weight_set point k) ∙ bit_of (bit_at point k) (bit_at-lt point k)

-- a place of a point is one of its low byte or one of what stands above it
split_place : (high low k : ℕ) → low < 2 ^ 8 → bit_at low k + bit_at (high * 2 ^ 8 + 0) k ≡ bit_at (high * 2 ^ 8 + low) k
split_place high low k small =
    elim (cases_lt k 8) [
      | inl below ↦
          let none = bit_at_cat_low high 8 0 k below in
          let zeros = bit_at-zero k in
          let here = bit_at_cat_low high 8 low k below in
          omega (arith, none, zeros, here)
      | inr above ↦
          let none = bit_at_above low 8 k small above in
          let plain = bit_at_cat_high high 8 0 k (omega arith) above in
          let here = bit_at_cat_high high 8 low k small above in
          omega (arith, none, plain, here)
    ]

split_weight :
    (weight point : ℕ) → IsPower weight
    → bit (has_weight (1 * (point % 256)) weight) + bit (has_weight (256 * (point / 256)) weight) ≡ bit (has_weight point weight)
split_weight weight point power =
    let k = power.place in
    let low : 1 * (point % 256) ≡ point % 256 = omega arith in
    let high : 256 * (point / 256) ≡ (point / 256) * 2 ^ 8 + 0 = omega arith in
    let whole : (point / 256) * 2 ^ 8 + point % 256 ≡ point = omega arith in
    let of_low : bit (has_weight (1 * (point % 256)) weight) ≡ bit_at (point % 256) k
    = (λ i. bit (has_weight (low i) (power.is i))) ∙ weight_bit (point % 256) k in
    let of_high : bit (has_weight (256 * (point / 256)) weight) ≡ bit_at ((point / 256) * 2 ^ 8 + 0) k
    = (λ i. bit (has_weight (high i) (power.is i))) ∙ weight_bit ((point / 256) * 2 ^ 8 + 0) k in
    let of_all : bit (has_weight point weight) ≡ bit_at point k
    = (λ i. bit (has_weight point (power.is i))) ∙ weight_bit point k in
    let both : bit_at (point % 256) k + bit_at ((point / 256) * 2 ^ 8 + 0) k ≡ bit_at point k
    = split_place (point / 256) (point % 256) k (omega arith) ∙ ap (λ n. bit_at n k) whole in
    omega (arith, of_low, of_high, of_all, both)

split_number :
    (places support : List Source) (point : ℕ)
    → number (weighed (map (weight_of places) support) (1 * (point % 256)))
    + number (weighed (map (weight_of places) support) (256 * (point / 256)))
    ≡ number (weighed (map (weight_of places) support) point)
split_number places [] point = refl
split_number places (s ∷ support) point =
    let power : IsPower (weight_of places s)
    = record { place = unwrap_or (position (same_source s) places) 0; is = refl } in
    let here = split_weight (weight_of places s) point power in
    let rest = split_number places support point in
    omega (arith, here, rest)

-- the number of a point is that of its low byte and that of what stands above it
pub is_split : (places support : List Source) (weights : List ℕ) → weights ≡ map (weight_of places) support → IsSplit weights
is_split places support weights are = record {
  at = λ point.
      subst (λ ws. number (weighed ws (1 * (point % 256))) + number (weighed ws (256 * (point / 256))) ≡ number (weighed ws point))
      (sym are) (split_number places support point);
}
