-- Tests that pass of all elements of lists.
use Rattle.std.proofs.Common.{◌≡◌, ℕ, Bool, true, false, not, ◌&&◌, ◌||◌, ◌==◌, List, [], ◌∷◌, ◌++◌, map, refl, sym, ap, ◌∙◌}
use Rattle.std.proofs.Common.{subst, arith}
use Rattle.std.specs.Prelude.{Some, filter, flat_map, find}
use Rattle.std.specs.List.{list_all, list_any}
use Rattle.std.proofs.lemmas.Bool.{cases_Bool, and_parts, eqb-true, and_from as both}
use Rattle.std.proofs.lemmas.Bool.Decides.{nat_tests}
use Rattle.std.proofs.Math.Logic.{inl, inr}
use Rattle.cell_machine.specs.Names.{has}

pub implied : (a b : Bool) → (a ≡ true → b ≡ true) → (not a || b) ≡ true
implied true b f = f refl
implied false b f = refl

pub all-append : {A : Type 0} (t : A → Bool) (xs ys : List A) → list_all t xs ≡ true → list_all t ys ≡ true
    → list_all t (xs ++ ys) ≡ true
all-append t [] ys h k = k
all-append t (x ∷ xs) ys h k = let parts = and_parts (t x) (list_all t xs) h in both _ _ parts.0 (all-append t xs ys parts.1 k)

-- of the elements that pass one test
pub all-filter : {A : Type 0} (t f : A → Bool) (xs : List A) → list_all (λ x. not (f x) || t x) xs ≡ true
    → list_all t (filter f xs) ≡ true
all-filter t f [] h = refl
all-filter t f (x ∷ xs) h =
    let parts = and_parts (not (f x) || t x) (list_all (λ x. not (f x) || t x) xs) h in
    elim (cases_Bool (f x)) [
      | inl passes ↦ rw passes (both _ _ (passed (f x) (t x) passes parts.0) (all-filter t f xs parts.1))
      | inr fails ↦ rw fails (all-filter t f xs parts.1)
    ]
  where
    passed : (a b : Bool) → a ≡ true → (not a || b) ≡ true → b ≡ true
    passed true b h k = k
    passed false b h k = absurd cc

-- of what is found
pub all-find : {A : Type 0} (t p : A → Bool) (xs : List A) (x : A) → list_all t xs ≡ true → find p xs ≡ Some x → t x ≡ true
all-find t p [] x h e = absurd cc
all-find t p (y ∷ ys) x h e =
    let parts = and_parts (t y) (list_all t ys) h in
    elim (cases_Bool (p y)) [
      | inl here ↦ let is : Some y ≡ Some x = rw here at e in let same : y ≡ x = cc in subst (λ z. t z ≡ true) same parts.0
      | inr later ↦ all-find t p ys x parts.1 (rw later at e)
    ]

-- a test that is weaker
pub all-weaker : {A : Type 0} (t s : A → Bool) (xs : List A) → ((x : A) → t x ≡ true → s x ≡ true) → list_all t xs ≡ true
    → list_all s xs ≡ true
all-weaker t s [] f h = refl
all-weaker t s (x ∷ xs) f h = let parts = and_parts (t x) (list_all t xs) h
    in both _ _ (f x parts.0) (all-weaker t s xs f parts.1)

pub all-both : {A : Type 0} (t s : A → Bool) (xs : List A) → list_all t xs ≡ true → list_all s xs ≡ true
    → list_all (λ x. t x && s x) xs ≡ true
all-both t s [] h k = refl
all-both t s (x ∷ xs) h k =
    let first = and_parts (t x) (list_all t xs) h in
    let second = and_parts (s x) (list_all s xs) k in
    both _ _ (both _ _ first.0 second.0) (all-both t s xs first.1 second.1)

-- of what each element gives
pub all-flat_map : {A B : Type 0} (t : B → Bool) (f : A → List B) (s : A → Bool) (xs : List A)
    → ((x : A) → s x ≡ true → list_all t (f x) ≡ true) → list_all s xs ≡ true → list_all t (flat_map f xs) ≡ true
all-flat_map t f s [] g h = refl
all-flat_map t f s (x ∷ xs) g h =
    let parts = and_parts (s x) (list_all s xs) h in
    all-append t (f x) (flat_map f xs) (g x parts.0) (all-flat_map t f s xs g parts.1)

pub all-map : {A B : Type 0} (t : B → Bool) (f : A → B) (xs : List A) → list_all (λ x. t (f x)) xs ≡ true
    → list_all t (map f xs) ≡ true
all-map t f [] h = refl
all-map t f (x ∷ xs) h = let parts = and_parts (t (f x)) (list_all (λ x. t (f x)) xs) h
    in both _ _ parts.0 (all-map t f xs parts.1)

-- each number of a list is in it
pub has-here : (x : ℕ) (xs : List ℕ) → has (x ∷ xs) x ≡ true
has-here x xs = let e : (x == x) ≡ true = grind (arith, nat_tests) in rw e refl

pub has-later : (x y : ℕ) (xs : List ℕ) → has xs y ≡ true → has (x ∷ xs) y ≡ true
has-later x y xs h = later (x == y) (has xs y) h
  where
    later : (a b : Bool) → b ≡ true → (a || b) ≡ true
    later true b h = refl
    later false b h = h

pub all-has : (xs : List ℕ) → list_all (has xs) xs ≡ true
all-has [] = refl
all-has (x ∷ xs) = both _ _ (has-here x xs) (all-weaker (has xs) (has (x ∷ xs)) xs (λ y h. has-later x y xs h) (all-has xs))

-- a number of a list whose numbers are in another is in the other
pub has-inside : (apart all : List ℕ) (i : ℕ) → list_all (has all) apart ≡ true → has apart i ≡ true → has all i ≡ true
has-inside [] all i h k = absurd cc
has-inside (x ∷ apart) all i h k =
    let parts = and_parts (has all x) (list_all (has all) apart) h in
    elim (cases_Bool (x == i)) [
      | inl here ↦ let same : x ≡ i = eqb-true x i here in subst (λ j. has all j ≡ true) same parts.0
      | inr later ↦ has-inside apart all i parts.1 (rw later at k)
    ]

-- numbers that are not in a list are not in one whose numbers are
pub all-apart : (t : ℕ → Bool) (apart all : List ℕ) (is : List ℕ) → list_all (has all) apart ≡ true → list_all t is ≡ true
    → list_any (has all) is ≡ false → list_all (λ i. t i && not (has apart i)) is ≡ true
all-apart t apart all [] inside h k = refl
all-apart t apart all (i ∷ is) inside h k =
    let parts = and_parts (t i) (list_all t is) h in
    let none = neither (has all i) (list_any (has all) is) k in
    let out : has apart i ≡ false = elim (cases_Bool (has apart i)) [
      | inl found ↦ let there : has all i ≡ true = has-inside apart all i inside found
          in let clash : true ≡ false = sym there ∙ none.0 in absurd cc
      | inr out ↦ out
    ] in
    both _ _ (both _ _ parts.0 (ap not out)) (all-apart t apart all is inside parts.1 none.1)
  where
    neither : (a b : Bool) → (a || b) ≡ false → (a ≡ false) × (b ≡ false)
    neither true b h = absurd cc
    neither false b h = (refl, h)
