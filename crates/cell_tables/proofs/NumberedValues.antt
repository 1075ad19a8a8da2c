-- The values of a function at the points, one after another by their numbers.
use Rattle.std.proofs.Common.{◌≡◌, ℕ, ◌+◌, ◌^◌, Bool, List, [], ◌∷◌, ◌++◌, map, length, slice_index_or, ap, sym, ◌∙◌, arith}
use Rattle.std.specs.List.{range_with_len}
use Rattle.std.proofs.lemmas.List.FromFn.{get_or-map-range_with_len, length-map-range_with_len, map-range_with_len_more}
use Rattle.trit_cubes.specs.declared.trits.Trit.{Trit}
use Rattle.trit_cubes.specs.declared.trits.Trit.TheVariants.{Unknown}
use Rattle.trit_cubes.specs.Sets.{AreValuesOf, point_of}
use Rattle.trit_cubes.proofs.PointLemmas.{values-points}

-- the values at the points with the numbers below this one
abbrev pub numbered : ℕ → (List Bool → Trit) → ℕ → List Trit
numbered places f count = map (λ k. f (point_of places k)) (range_with_len 0 count)

-- one more
pub numbered-more : (places : ℕ) (f : List Bool → Trit) (number : ℕ) (values : List Trit) (value : Trit)
    → values ≡ numbered places f number → value ≡ f (point_of places number)
    → values ++ value ∷ [] ≡ numbered places f (number + 1)
numbered-more places f number values value so_far is =
    (λ i. so_far i ++ is i ∷ []) ∙ sym (map-range_with_len_more (λ k. f (point_of places k)) 0 number number (omega arith))

-- all of them
pub numbered-all : (places : ℕ) (f : List Bool → Trit) (number : ℕ) (values : List Trit)
    → number ≡ 2 ^ places → values ≡ numbered places f number → AreValuesOf places f values
numbered-all places f number values all are =
    let g : ℕ → Trit = λ k. f (point_of places k) in
    let whole : values ≡ numbered places f (2 ^ places) = are ∙ ap (numbered places f) all in
    values-points places f values (ap length whole ∙ length-map-range_with_len g 0 (2 ^ places))
    (λ j l. ap (λ (vs : List Trit). slice_index_or vs j Unknown) whole
    ∙ get_or-map-range_with_len g 0 (2 ^ places) j j Unknown l (omega arith))
