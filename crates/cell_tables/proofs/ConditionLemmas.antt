-- The table of a condition over the pins that it names gives its values at points of them.
use Rattle.std.proofs.Common.{◌≡◌, ℕ, suc, ◌+◌, ◌<◌, ◌≤◌, Bool, true, false, not, if◌then◌else◌, List, [], ◌∷◌, map, length}
use Rattle.std.proofs.Common.{slice_get, Some, inl, inr, refl, sym, ◌∙◌, ap, subst, arith}
use Rattle.std.specs.List.Sorted.{IsStrictlyIncreasing}
use Rattle.std.proofs.lemmas.Option.{get_or_from_slice_get, slice_get_within}
use Rattle.std.proofs.lemmas.List.{get_or-map}
use Rattle.trit_cubes.specs.declared.trits.Trit.TheVariants.{Zero, One}
use Rattle.trit_cubes.specs.Filling.{number}
use Rattle.trit_cubes.specs.Sets.{has, gives}
use Rattle.trit_cubes.specs.Prime.{prime_list}
use Rattle.trit_cubes.proofs.ListLemmas.{Among, among-contains}
use Rattle.trit_cubes.proofs.SplitLemmas.{prime_list-same}
use Rattle.bool_functions.specs.declared.tree.Node.{Node}
use Rattle.bool_functions.specs.Tree.{value_of}
use Rattle.bool_functions.specs.Support.{support_of}
use Rattle.bool_functions.specs.Point.{number as number_of_bits, bits_at, HasValues}
use Rattle.bool_functions.proofs.Supports.{support_ascends, support_has}
use Rattle.bool_functions.proofs.Bounds.{has_below}
use Rattle.cell_machine.specs.Values.{no_values, written}
use Rattle.cell_machine.specs.Outputs.{condition_at}
use Rattle.cell_machine.specs.Supports.{AllAbove, Ascending, AllBelow}
use Rattle.cell_machine.proofs.StepLemmas.{picked-written}
use Rattle.cell_machine.proofs.GroupSteps.{length-no_values}
use Rattle.bool_functions.specs.SameTrees.{same_tree}
use Rattle.udp_tables.specs.Conditions.{condition_place, IsSmall}
use Rattle.cell_tables.proofs.GenerationLemmas.{number-same, same-one, same-zero}

-- the support of a condition as the machine's lemmas take it
above-less : (x y : ℕ) (ys : List ℕ) → x < y → AllAbove y ys → AllAbove x ys
above-less x y [] h k = tt
above-less x y (z ∷ zs) h k = let l : y < z = k.0 in (omega arith, above-less x y zs h k.1)

increasing-tail : (x : ℕ) (xs : List ℕ) → IsStrictlyIncreasing (x ∷ xs) → IsStrictlyIncreasing xs
increasing-tail x xs h k l = let e : suc k + 1 ≡ suc (k + 1) = omega arith in rw e at (h (suc k) (omega (arith, l)))

increasing-ascends : (xs : List ℕ) → IsStrictlyIncreasing xs → Ascending xs
increasing-ascends [] h = tt
increasing-ascends (x ∷ []) h = (tt, tt)
increasing-ascends (x ∷ y ∷ ys) h =
    let rest : Ascending (y ∷ ys) = increasing-ascends (y ∷ ys) (increasing-tail x (y ∷ ys) h) in
    let less : x < y = h 0 (omega arith) in
    ((less, above-less x y ys less rest.0), rest)

pub support-ascending : (f : Node) → Ascending (support_of f)
support-ascending f = increasing-ascends (support_of f) (support_ascends f)

all-below : (n : ℕ) (xs : List ℕ) → ((i : ℕ) → Among i xs → i < n) → AllBelow n xs
all-below n [] h = tt
all-below n (x ∷ xs) h = (h x (inl refl), all-below n xs (λ i m. h i (inr m)))

support-below : (f : Node) → IsSmall f → AllBelow 96 (support_of f)
support-below f small =
    all-below 96 (support_of f)
    (λ i m.
    let below = has_below f i ((support_has f i).0 (among-contains i (support_of f) m)) in
    let few = small.bounded in
    omega (arith, below, few))

-- the entry at a point
condition-entry :
    (f : Node) (values p : List Bool)
    → IsSmall f → HasValues (support_of f) f values → length p ≡ length (support_of f)
    → slice_get values (number p) ≡ Some (value_of (written no_values (support_of f) p) f)
condition-entry f values p small h long =
    let places : bits_at (support_of f) (written no_values (support_of f) p) ≡ p
    = picked-written (support_of f) p no_values (support-ascending f)
    (subst (λ n. AllBelow n (support_of f)) (sym length-no_values) (support-below f small)) (sym long) in
    ap (slice_get values) (sym (ap number_of_bits places ∙ number-same p)) ∙ h (written no_values (support_of f) p)

pub condition-ones :
    (f : Node) (values : List Bool)
    → IsSmall f → HasValues (support_of f) f values
    → prime_list (length (support_of f)) (has values) ≡ prime_list (length (support_of f))
    (gives One (condition_at (support_of f) f))
condition-ones f values small h =
    prime_list-same (length (support_of f)) (has values) (gives One (condition_at (support_of f) f))
    (λ p long.
    get_or_from_slice_get values (number p) (value_of (written no_values (support_of f) p) f) false
    (condition-entry f values p small h long)
    ∙ same-one (value_of (written no_values (support_of f) p) f))

pub condition-zeros :
    (f : Node) (values : List Bool)
    → IsSmall f → HasValues (support_of f) f values
    → prime_list (length (support_of f)) (has (map not values)) ≡ prime_list (length (support_of f))
    (gives Zero (condition_at (support_of f) f))
condition-zeros f values small h =
    prime_list-same (length (support_of f)) (has (map not values)) (gives Zero (condition_at (support_of f) f))
    (λ p long.
    let value : Bool = value_of (written no_values (support_of f) p) f in
    let entry = condition-entry f values p small h long in
    get_or-map not values (number p) false false (slice_get_within values (number p) value entry)
    ∙ ap not (get_or_from_slice_get values (number p) value false entry) ∙ same-zero value)

-- a condition's number is at most the count of the conditions
pub place-within : (f : Node) (trees : List Node) → condition_place trees f ≤ length trees
place-within f [] = omega arith
place-within f (g ∷ trees) = by (same_tree f g) (place-within f trees)
  where
    by : (b : Bool) → condition_place trees f ≤ length trees → (if b then 0 else condition_place trees f + 1) ≤ length (g ∷ trees)
    by true h = omega arith
    by false h = omega arith
