-- The table of a function over its first names is the set of points at which the function is 1.
use Rattle.std.proofs.Common.{◌≡◌, ℕ, zero, suc, ◌<◌, ◌≤◌, Bool, true, false, not, List, [], ◌∷◌, ◌++◌, map, take, length}
use Rattle.std.proofs.Common.{slice_index_or, slice_get, Some, refl, sym, ◌∙◌, ap, subst, inl, inr, arith, add-one}
use Rattle.std.specs.List.{Contains}
use Rattle.std.proofs.lemmas.List.{map_push, take_more, take_all, get_or-map, length_push}
use Rattle.std.proofs.lemmas.Bool.{cases_lt}
use Rattle.std.proofs.lemmas.List.Elements.{Contains-append_left, Contains-push}
use Rattle.std.proofs.lemmas.Option.{get_or_from_slice_get, slice_get_within}
use Rattle.trit_cubes.specs.declared.trits.Trit.TheVariants.{Zero, One}
use Rattle.trit_cubes.specs.Filling.{number, same, trit_of}
use Rattle.trit_cubes.specs.Sets.{has, gives}
use Rattle.trit_cubes.specs.Prime.{prime_list}
use Rattle.trit_cubes.proofs.SplitLemmas.{prime_list-same}
use Rattle.bool_functions.specs.declared.tree.Node.{Node}
use Rattle.bool_functions.specs.Tree.{value_of}
use Rattle.bool_functions.specs.Point.{number as number_of_bits, bits_at, HasValues}
use Rattle.udp_tables.specs.Generated.{tree_value, numbers_below}

pub numbers_below-contains : (n i : ℕ) → i < n → Contains (numbers_below n) i
numbers_below-contains zero i h = absurd (omega arith)
numbers_below-contains (suc n) i h =
    elim (cases_lt i n) [
      | inl below ↦ Contains-append_left (numbers_below n) (n ∷ []) i (numbers_below-contains n i below)
      | inr least ↦ let e : n ≡ i = omega arith
          in subst (Contains (numbers_below n ++ n ∷ [])) e (Contains-push (numbers_below n) n)
    ]

pub length-numbers_below : (n : ℕ) → length (numbers_below n) ≡ n
length-numbers_below zero = refl
length-numbers_below (suc n) = length_push (numbers_below n) n ∙ omega (arith, length-numbers_below n)

bits_at-below : (n : ℕ) (bits : List Bool) → n ≤ length bits → bits_at (numbers_below n) bits ≡ take n bits
bits_at-below zero bits h = refl
bits_at-below (suc n) bits h =
    map_push (λ i. slice_index_or bits i false) (numbers_below n) n
    ∙ ap (λ xs. xs ++ slice_index_or bits n false ∷ []) (bits_at-below n bits (omega arith))
    ∙ sym (take_more bits n false (omega arith)) ∙ ap (λ k. take k bits) (add-one n)

pub number-same : (p : List Bool) → number_of_bits p ≡ number p
number-same [] = refl
number-same (true ∷ p) = rw (number-same p) refl
number-same (false ∷ p) = rw (number-same p) refl

-- the entry at the number of a point
pub table-at : (n : ℕ) (f : Node) (values : List Bool) (p : List Bool) → HasValues (numbers_below n) f values → length p ≡ n
    → slice_get values (number p) ≡ Some (value_of p f)
table-at n f values p h long =
    let same_bits : bits_at (numbers_below n) p ≡ p = bits_at-below n p (omega arith) ∙ take_all n p (omega arith) in
    ap (slice_get values) (sym (ap number_of_bits same_bits ∙ number-same p)) ∙ h p

-- a known value is told by each of the two trits
pub same-one : (b : Bool) → b ≡ same One (trit_of b)
same-one true = refl
same-one false = refl

pub same-zero : (b : Bool) → not b ≡ same Zero (trit_of b)
same-zero true = refl
same-zero false = refl

pub ones-table : (n : ℕ) (f : Node) (values : List Bool) → HasValues (numbers_below n) f values
    → prime_list n (has values) ≡ prime_list n (gives One (tree_value f))
ones-table n f values h =
    prime_list-same n (has values) (gives One (tree_value f))
    (λ p long. get_or_from_slice_get values (number p) (value_of p f) false (table-at n f values p h long)
    ∙ same-one (value_of p f))

pub zeros-table : (n : ℕ) (f : Node) (values : List Bool) → HasValues (numbers_below n) f values
    → prime_list n (has (map not values)) ≡ prime_list n (gives Zero (tree_value f))
zeros-table n f values h =
    prime_list-same n (has (map not values)) (gives Zero (tree_value f))
    (λ p long.
    let entry = table-at n f values p h long in
    get_or-map not values (number p) false false (slice_get_within values (number p) (value_of p f) entry)
    ∙ ap not (get_or_from_slice_get values (number p) (value_of p f) false entry) ∙ same-zero (value_of p f))
