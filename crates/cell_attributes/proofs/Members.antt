-- Lists whose numbers all stand in another list, and numbers put at their places.
use Rattle.std.proofs.Common.{◌≡◌, ℕ, ◌<◌, Bool, true, ◌==◌, List, [], ◌∷◌, ◌++◌, map, filter, refl, sym, ◌∙◌, ap, subst, arith}
use Rattle.std.proofs.Common.{IsTrue, nat_lt, inl, inr, eqb-true}
use Rattle.std.specs.Prelude.{flat_map}
use Rattle.std.specs.List.{list_all}
use Rattle.std.proofs.lemmas.List.Folds.{list_all-append, list_any-append}
use Rattle.std.proofs.lemmas.Bool.{cases_Bool, and_parts, and_from, or_cases, or_left, or_right, lt-ltb, eq-eqb}
use Rattle.std.proofs.lemmas.Bool.Decides.{nat_tests}
use Rattle.bool_functions.specs.Support.{inserted, insert_all}
use Rattle.cell_machine.specs.Names.{has}
use Rattle.cell_machine.specs.CellRules.{is_ascending}
use Rattle.cell_machine.proofs.CellFacts.{list_all-implied, has-all}
use Rattle.cell_attributes.proofs.Fits.{insert_all_all}

-- each number of the first list stands in the second
abbrev pub stand_in : List ℕ → List ℕ → Bool
stand_in ys xs = list_all (has ys) xs

pub has_append_left : (xs ys : List ℕ) (i : ℕ) → IsTrue (has xs i) → IsTrue (has (xs ++ ys) i)
has_append_left xs ys i h = list_any-append (λ j. j == i) xs ys ∙ or_left (has xs i) (has ys i) h

pub has_append_right : (xs ys : List ℕ) (i : ℕ) → IsTrue (has ys i) → IsTrue (has (xs ++ ys) i)
has_append_right xs ys i h = list_any-append (λ j. j == i) xs ys ∙ or_right (has xs i) (has ys i) h

-- the parts of a list that was put together pass
pub all_parts : {X : Type 0} (p : X → Bool) (xs ys : List X) → IsTrue (list_all p (xs ++ ys)) → IsTrue (list_all p xs)
    × IsTrue (list_all p ys)
all_parts p xs ys h = and_parts (list_all p xs) (list_all p ys) (sym (list_all-append p xs ys) ∙ h)

pub all_from : {X : Type 0} (p : X → Bool) (xs ys : List X) → IsTrue (list_all p xs) → IsTrue (list_all p ys)
    → IsTrue (list_all p (xs ++ ys))
all_from p xs ys h k = list_all-append p xs ys ∙ and_from (list_all p xs) (list_all p ys) h k

-- where two tests pass, so does what follows from both
pub all_both :
    {X : Type 0} (p q r : X → Bool) (xs : List X) → ((x : X) → IsTrue (p x) → IsTrue (q x) → IsTrue (r x))
    → IsTrue (list_all p xs) → IsTrue (list_all q xs) → IsTrue (list_all r xs)
all_both p q r [] f h k = refl
all_both p q r (x ∷ xs) f h k =
    let a = and_parts (p x) (list_all p xs) h in
    let b = and_parts (q x) (list_all q xs) k in
    and_from (r x) (list_all r xs) (f x a.0 b.0) (all_both p q r xs f a.1 b.1)

has_step : (i j : ℕ) (xs : List ℕ) → IsTrue (has xs i) → IsTrue (has (j ∷ xs) i)
has_step i j xs h = or_right (j == i) (has xs i) h

pub has_head : (i : ℕ) (xs : List ℕ) → IsTrue (has (i ∷ xs) i)
has_head i xs = or_left (i == i) (has xs i) (eq-eqb i i refl)

-- each list stands in itself
pub in_itself : (xs : List ℕ) → IsTrue (stand_in xs xs)
in_itself [] = refl
in_itself (x ∷ xs) =
    and_from (has (x ∷ xs) x) (list_all (has (x ∷ xs)) xs) (has_head x xs)
    (list_all-implied (has xs) (has (x ∷ xs)) xs (λ i h. has_step i x xs h) (in_itself xs))

-- what all of a list pass, all that stand in it pass
pub in_passes : (p : ℕ → Bool) (xs ys : List ℕ) → IsTrue (stand_in ys xs) → IsTrue (list_all p ys) → IsTrue (list_all p xs)
in_passes p xs ys h k = list_all-implied (has ys) p xs (λ i t. has-all p ys i k t) h

pub in_left : (xs ys zs : List ℕ) → IsTrue (stand_in ys xs) → IsTrue (stand_in (ys ++ zs) xs)
in_left xs ys zs h = list_all-implied (has ys) (has (ys ++ zs)) xs (λ i t. has_append_left ys zs i t) h

pub in_right : (xs ys zs : List ℕ) → IsTrue (stand_in zs xs) → IsTrue (stand_in (ys ++ zs) xs)
in_right xs ys zs h = list_all-implied (has zs) (has (ys ++ zs)) xs (λ i t. has_append_right ys zs i t) h

-- putting numbers at their places keeps what they are

all_inserted : (p : ℕ → Bool) (i : ℕ) (js : List ℕ) → IsTrue (p i) → IsTrue (list_all p js) → IsTrue (list_all p (inserted i js))
all_inserted p i [] h k = and_from (p i) true h refl
all_inserted p i (j ∷ js) h k =
    let parts = and_parts (p j) (list_all p js) k in
    elim (cases_Bool (i == j)) [
      | inl e ↦ rw e k
      | inr e ↦
          elim (cases_Bool (nat_lt i j)) [
            | inl l ↦ rw (e, l) (and_from (p i) (list_all p (j ∷ js)) h k)
            | inr l ↦ rw (e, l) (and_from (p j) (list_all p (inserted i js)) parts.0 (all_inserted p i js h parts.1))
          ]
    ]

pub all_insert_all : (p : ℕ → Bool) (js is : List ℕ) → IsTrue (list_all p js) → IsTrue (list_all p is)
    → IsTrue (list_all p (insert_all js is))
all_insert_all p js [] h k = h
all_insert_all p js (i ∷ is) h k =
    let parts = and_parts (p i) (list_all p is) k in
    all_insert_all p (inserted i js) is (all_inserted p i js parts.0 h) parts.1

-- the numbers that were put at their places are those that were given
pub placed_in : (xs : List ℕ) → IsTrue (stand_in xs (insert_all [] xs))
placed_in xs = all_insert_all (has xs) [] xs refl (in_itself xs)

pub in_placed : (xs : List ℕ) → IsTrue (stand_in (insert_all [] xs) xs)
in_placed xs = (insert_all_all (has (insert_all [] xs)) xs [] (in_itself (insert_all [] xs))).1

-- and they ascend

-- x is below the first of a list
abbrev is_above : ℕ → List ℕ → Bool
is_above x [] = true
is_above x (y ∷ ys) = nat_lt x y

ascending_from : (x : ℕ) (ys : List ℕ) → IsTrue (is_above x ys) → IsTrue (is_ascending ys) → IsTrue (is_ascending (x ∷ ys))
ascending_from x [] h k = refl
ascending_from x (y ∷ ys) h k = and_from (nat_lt x y) (is_ascending (y ∷ ys)) h k

ascending_parts : (x : ℕ) (ys : List ℕ) → IsTrue (is_ascending (x ∷ ys)) → IsTrue (is_above x ys) × IsTrue (is_ascending ys)
ascending_parts x [] h = (refl, refl)
ascending_parts x (y ∷ ys) h = and_parts (nat_lt x y) (is_ascending (y ∷ ys)) h

above_inserted : (x i : ℕ) (js : List ℕ) → IsTrue (nat_lt x i) → IsTrue (is_above x js) → IsTrue (is_above x (inserted i js))
above_inserted x i [] h k = h
above_inserted x i (j ∷ js) h k =
    elim (cases_Bool (i == j)) [
      | inl e ↦ rw e k
      | inr e ↦ elim (cases_Bool (nat_lt i j)) [ inl l ↦ rw (e, l) h | inr l ↦ rw (e, l) k ]
    ]

ascending_inserted : (i : ℕ) (js : List ℕ) → IsTrue (is_ascending js) → IsTrue (is_ascending (inserted i js))
ascending_inserted i [] h = refl
ascending_inserted i (j ∷ js) h =
    let parts = ascending_parts j js h in
    elim (cases_Bool (i == j)) [
      | inl e ↦ rw e h
      | inr e ↦
          elim (cases_Bool (nat_lt i j)) [
            | inl l ↦ rw (e, l) (and_from (nat_lt i j) (is_ascending (j ∷ js)) l h)
            | inr l ↦
                let less : j < i = grind (arith, nat_tests) in
                rw (e, l)
                (ascending_from j (inserted i js) (above_inserted j i js (lt-ltb j i less) parts.0)
                (ascending_inserted i js parts.1))
          ]
    ]

ascending_insert_all : (js is : List ℕ) → IsTrue (is_ascending js) → IsTrue (is_ascending (insert_all js is))
ascending_insert_all js [] h = h
ascending_insert_all js (i ∷ is) h = ascending_insert_all (inserted i js) is (ascending_inserted i js h)

pub placed_ascend : (xs : List ℕ) → IsTrue (is_ascending (insert_all [] xs))
placed_ascend xs = ascending_insert_all [] xs refl

-- what passes a test is among those that pass it
pub in_filter : (p : ℕ → Bool) (xs : List ℕ) (i : ℕ) → IsTrue (p i) → IsTrue (has xs i) → IsTrue (has (filter p xs) i)
in_filter p [] i h k = k
in_filter p (x ∷ xs) i h k =
    elim (or_cases (x == i) (has xs i) k) [
      | inl e ↦
          let same : x ≡ i = eqb-true x i e in
          let passed : p x ≡ true = subst (λ j. IsTrue (p j)) (sym same) h in
          rw passed (or_left (x == i) (has (filter p xs) i) e)
      | inr e ↦
          let later : IsTrue (has (filter p xs) i) = in_filter p xs i h e in
          elim (cases_Bool (p x)) [
            | inl t ↦ rw t (or_right (x == i) (has (filter p xs) i) later)
            | inr t ↦ rw t later
          ]
    ]

pub filter_in : (p : ℕ → Bool) (xs : List ℕ) → IsTrue (stand_in xs (filter p xs))
filter_in p [] = refl
filter_in p (x ∷ xs) =
    let later : IsTrue (list_all (has (x ∷ xs)) (filter p xs)) =
    list_all-implied (has xs) (has (x ∷ xs)) (filter p xs) (λ i h. has_step i x xs h) (filter_in p xs) in
    elim (cases_Bool (p x)) [
      | inl t ↦ rw t (and_from (has (x ∷ xs) x) (list_all (has (x ∷ xs)) (filter p xs)) (has_head x xs) later)
      | inr t ↦ rw t later
    ]

pub filter_all : (p : ℕ → Bool) (xs : List ℕ) → IsTrue (list_all p (filter p xs))
filter_all p [] = refl
filter_all p (x ∷ xs) =
    elim (cases_Bool (p x)) [
      | inl t ↦ rw t (and_from (p x) (list_all p (filter p xs)) t (filter_all p xs))
      | inr t ↦ rw t (filter_all p xs)
    ]

-- lists in lists, through a function that gives lists
pub in_flat_map :
    (f : ℕ → List ℕ) (xs : List ℕ) (i : ℕ) → IsTrue (has xs i) → IsTrue (stand_in (flat_map f xs) (f i))
in_flat_map f [] i h = absurd cc
in_flat_map f (x ∷ xs) i h =
    elim (or_cases (x == i) (has xs i) h) [
      | inl e ↦
          let same : x ≡ i = eqb-true x i e in
          subst (λ j. IsTrue (stand_in (f x ++ flat_map f xs) (f j))) same (in_left (f x) (f x) (flat_map f xs) (in_itself (f x)))
      | inr e ↦ in_right (f i) (f x) (flat_map f xs) (in_flat_map f xs i e)
    ]

pub all_flat_map :
    (p : ℕ → Bool) (f : ℕ → List ℕ) (xs : List ℕ) → IsTrue (list_all (λ i. list_all p (f i)) xs)
    → IsTrue (list_all p (flat_map f xs))
all_flat_map p f [] h = refl
all_flat_map p f (x ∷ xs) h =
    let parts = and_parts (list_all p (f x)) (list_all (λ i. list_all p (f i)) xs) h in
    all_from p (f x) (flat_map f xs) parts.0 (all_flat_map p f xs parts.1)

-- a number in a list is, through a function, in the list of what it gives
pub has_map : (f : ℕ → ℕ) (xs : List ℕ) (i : ℕ) → IsTrue (has xs i) → IsTrue (has (map f xs) (f i))
has_map f [] i h = h
has_map f (x ∷ xs) i h =
    elim (or_cases (x == i) (has xs i) h) [
      | inl e ↦ or_left (f x == f i) (has (map f xs) (f i)) (eq-eqb (f x) (f i) (ap f (eqb-true x i e)))
      | inr e ↦ or_right (f x == f i) (has (map f xs) (f i)) (has_map f xs i e)
    ]

pub all_map : (p : ℕ → Bool) (f : ℕ → ℕ) (xs : List ℕ) → IsTrue (list_all (λ i. p (f i)) xs) → IsTrue (list_all p (map f xs))
all_map p f [] h = refl
all_map p f (x ∷ xs) h =
    let parts = and_parts (p (f x)) (list_all (λ i. p (f i)) xs) h in
    and_from (p (f x)) (list_all p (map f xs)) parts.0 (all_map p f xs parts.1)
