-- The first of arguments that are gone through in their order.
use Rattle.std.proofs.Common.{◌≡◌, ℕ, ◌+◌, ◌-◌, ◌^◌, ◌<◌, ◌≤◌, List, [], ◌∷◌, map, flat_map, None, sym, ◌∙◌, ap, arith}
use Rattle.std.specs.List.{range_with_len}
use Rattle.std.specs.Option.{option_or}
use Rattle.std.proofs.lemmas.List.Folds.{find-append, flat_map-map}
use Rattle.std.proofs.lemmas.List.Concat.{flat_map_single}
use Rattle.trit_cubes.specs.declared.trits.Trit.{Trit}
use Rattle.trit_cubes.specs.Prime.{cubes_of}
use Rattle.module_tables.specs.declared.differences.Difference.{Difference}
use Rattle.module_tables.specs.Lists.{list_numbered}
use Rattle.module_tables.specs.Tables.{is_unlike, first_difference}
use Rattle.module_tables.proofs.ListNumbers.{cubes-numbered}
use Rattle.module_terminals.proofs.Searches.{one_less, none_left}

-- the first among the arguments of the numbers from i on
pub turn :
    (f : ℕ → List Difference) (i n : ℕ) → i < n
    → first_difference (flat_map f (range_with_len i (n - i)))
    ≡ option_or (first_difference (f i)) (first_difference (flat_map f (range_with_len (i + 1) (n - (i + 1)))))
turn f i n h =
    ap (λ k. first_difference (flat_map f (range_with_len i k))) (one_less i n h)
    ∙ find-append is_unlike (f i) (flat_map f (range_with_len (i + 1) (n - (i + 1))))

pub done : (f : ℕ → List Difference) (i n : ℕ) → n ≤ i → first_difference (flat_map f (range_with_len i (n - i))) ≡ None
done f i n h = ap (λ k. first_difference (flat_map f (range_with_len i k))) (none_left i n h)

-- all lists of m values by their numbers
pub lists-from :
    (f : List Trit → List Difference) (n m count : ℕ) → count ≡ 3 ^ n → n ≡ m
    → first_difference (flat_map (λ k. f (list_numbered n k)) (range_with_len 0 (count - 0))) ≡ first_difference
    (flat_map f (cubes_of m))
lists-from f n m count is same =
    let all : count - 0 ≡ 3 ^ n = omega (arith, is) in
    ap first_difference
    (ap (λ c. flat_map (λ k. f (list_numbered n k)) (range_with_len 0 c)) all
    ∙ sym (flat_map-map f (list_numbered n) (range_with_len 0 (3 ^ n)))
    ∙ ap (flat_map f) (sym (cubes-numbered n))
    ∙ ap (λ k. flat_map f (cubes_of k)) same)

pub values-from :
    (f : List Trit → Difference) (n m count : ℕ) → count ≡ 3 ^ n → n ≡ m
    → first_difference (flat_map (λ k. f (list_numbered n k) ∷ []) (range_with_len 0 (count - 0))) ≡ first_difference
    (map f (cubes_of m))
values-from f n m count is same =
    lists-from (λ values. f values ∷ []) n m count is same ∙ ap first_difference (flat_map_single f (cubes_of m))
