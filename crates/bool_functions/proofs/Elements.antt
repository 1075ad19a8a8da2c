-- The elements of a list, by its first one.
use Rattle.std.proofs.Common.{◌≡◌, ℕ, zero, suc, ◌<◌, Bool, true, false, ◌||◌, ◌==◌, List, [], ◌∷◌, length, slice_index_or}
use Rattle.std.proofs.Common.{Contains, IsTrue, ◌↔◌, refl, subst, arith, ◌⊎◌, inl, inr, eqb-true, eq-eqb}
use Rattle.std.specs.List.{list_any}

pub contains_here : {X : Type 0} (x : X) (xs : List X) → Contains (x ∷ xs) x
contains_here x xs = (0, omega arith, refl)

pub contains_later : {X : Type 0} (x : X) (xs : List X) (y : X) → Contains xs y → Contains (x ∷ xs) y
contains_later x xs y h = (suc h.0, omega (arith, h.1), h.2)

pub contains_cases : {X : Type 0} (x : X) (xs : List X) (y : X) → Contains (x ∷ xs) y → (x ≡ y) ⊎ Contains xs y
contains_cases x xs y h = by h.0 h.1 h.2
  where
    by : (k : ℕ) → k < length (x ∷ xs) → slice_index_or (x ∷ xs) k y ≡ y → (x ≡ y) ⊎ Contains xs y
    by zero l e = inl e
    by (suc k) l e = inr (k, omega (arith, l), e)

pub contains_none : {X : Type 0} (y : X) → Contains [] y → ⊥
contains_none y h = omega (arith, h.1)

by_test : (i x : ℕ) (xs : List ℕ) (b : Bool) → x == i ≡ b → (IsTrue (list_any (λ j. j == i) xs) ↔ Contains xs i)
    → IsTrue (b || list_any (λ j. j == i) xs) ↔ Contains (x ∷ xs) i
by_test i x xs true e h = (λ _. subst (λ y. Contains (x ∷ xs) y) (eqb-true x i e) (contains_here x xs), λ _. refl)
by_test i x xs false e h = (
  λ t. contains_later x xs i (h.0 t),
  λ c. elim (contains_cases x xs i c) [ inl same ↦ absurd cc (eq-eqb x i same) | inr later ↦ h.1 later ],
)

-- a number is an element exactly where the test finds it
pub contains_by_test : (xs : List ℕ) (i : ℕ) → IsTrue (list_any (λ j. j == i) xs) ↔ Contains xs i
contains_by_test [] i = (λ h. absurd cc, λ h. absurd (contains_none i h))
contains_by_test (x ∷ xs) i = by_test i x xs (x == i) refl (contains_by_test xs i)
