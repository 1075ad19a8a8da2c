-- The number of a driven output, found in the list of them, which ascends.
use Rattle.std.proofs.Common.{◌≡◌, ℕ, zero, suc, ◌<◌, ◌≤◌, cond, inl, inr, List, [], ◌∷◌, length, get_or, sym, ap, ◌∙◌}
use Rattle.std.proofs.Common.{Some, None, Ok, Err, arith}
use Rattle.std.specs.Prelude.{nat_eq, nat_lt, position}
use Rattle.std.specs.List.{position_or_len}
use Rattle.std.specs.Ordering.{nat_cmp}
use Rattle.std.specs.List.Sorted.{IsBinarySearchResult}
use Rattle.std.proofs.Math.Nat.{eq-or-lt_of_le}
use Rattle.std.proofs.lemmas.Bool.{cases_lt, lt-ltb, le-ltb, eq-eqb, ne_eqb as differ}
use Rattle.std.proofs.lemmas.List.Sorted.{searched}
use Rattle.std.proofs.lemmas.List.Sums.{position_or_len_is}
use Rattle.cell_machine.specs.Supports.{AllAbove, Ascending}

above_at : (x : ℕ) (xs : List ℕ) (k : ℕ) → AllAbove x xs → k < length xs → x < get_or xs k 0
above_at x [] k above h = absurd (omega arith)
above_at x (y ∷ ys) zero above h = above.0
above_at x (y ∷ ys) (suc k) above h = above_at x ys k above.1 (omega (arith, h))

rising : (xs : List ℕ) (i j : ℕ) → Ascending xs → i < j → j < length xs → get_or xs i 0 < get_or xs j 0
rising [] i j up l h = absurd (omega arith)
rising (x ∷ xs) zero zero up l h = absurd (omega (arith, l))
rising (x ∷ xs) zero (suc j) up l h = above_at x xs j up.0 (omega (arith, h))
rising (x ∷ xs) (suc i) zero up l h = absurd (omega (arith, l))
rising (x ∷ xs) (suc i) (suc j) up l h = rising xs i j up.1 (omega (arith, l)) (omega (arith, h))

not_falling : (xs : List ℕ) → Ascending xs → (i j : ℕ) → i ≤ j → j < length xs → get_or xs i 0 ≤ get_or xs j 0
not_falling xs up i j l h = elim (eq-or-lt_of_le l) [
  | inl e ↦ let same : get_or xs i 0 ≡ get_or xs j 0 = ap (λ k. get_or xs k 0) e in omega (arith, same)
  | inr below ↦ let less = rising xs i j up below h in omega (arith, less)
]

-- it stands at this place
found : (xs : List ℕ) (place i : ℕ) → Ascending xs → i < length xs → get_or xs i 0 ≡ place
    → position (λ (driven : ℕ). nat_eq driven place) xs ≡ Some i
found xs place i up h is =
    let earlier : (k : ℕ) → k < i → get_or xs k 0 ≡ place → ⊥ =
    λ k l same. (let less = rising xs k i up l h in omega (arith, less, same, is)) in
    let first : position_or_len (λ (driven : ℕ). nat_eq driven place) xs ≡ i =
    position_or_len_is (λ (driven : ℕ). nat_eq driven place) xs i 0 (omega (arith, h))
    (λ k l. differ (get_or xs k 0) place (earlier k l)) (λ _. eq-eqb (get_or xs i 0) place is) in
    ap (λ n. cond (nat_lt n (length xs)) (Some n) None) first ∙ ap (λ b. cond b (Some i) None) (lt-ltb i (length xs) h)

-- it stands nowhere
absent : (xs : List ℕ) (place : ℕ) → ((k : ℕ) → k < length xs → get_or xs k 0 ≡ place → ⊥)
    → position (λ (driven : ℕ). nat_eq driven place) xs ≡ None
absent xs place never =
    let last : position_or_len (λ (driven : ℕ). nat_eq driven place) xs ≡ length xs =
    position_or_len_is (λ (driven : ℕ). nat_eq driven place) xs (length xs) 0 (omega arith)
    (λ k l. differ (get_or xs k 0) place (never k l)) (λ l. absurd (omega (arith, l))) in
    ap (λ n. cond (nat_lt n (length xs)) (Some n) None) last
    ∙ ap (λ b. cond b (Some (length xs)) None) (le-ltb (length xs) (length xs) (omega arith))

pub number_found : (xs : List ℕ) (place i : ℕ) → Ascending xs → IsBinarySearchResult (λ y. nat_cmp y place) xs (Ok i)
    → Some i ≡ position (λ (driven : ℕ). nat_eq driven place) xs
number_found xs place i up s =
    let here = searched xs place (Ok i) s (not_falling xs up) in sym (found xs place i up here.0 here.1)

pub number_absent : (xs : List ℕ) (place i : ℕ) → Ascending xs → IsBinarySearchResult (λ y. nat_cmp y place) xs (Err i)
    → None ≡ position (λ (driven : ℕ). nat_eq driven place) xs
number_absent xs place i up s =
    let (_, before, behind) = searched xs place (Err i) s (not_falling xs up) in
    let never : (k : ℕ) → k < length xs → get_or xs k 0 ≡ place → ⊥ =
    λ k l same. elim (cases_lt k i) [
      | inl below ↦ let less = before k below in omega (arith, less, same)
      | inr over ↦ let less = behind k over l in omega (arith, less, same)
    ] in
    sym (absent xs place never)
