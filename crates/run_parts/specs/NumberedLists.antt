-- Lists that have numbers.
use Rattle.std.specs.Prelude.{◌≡◌, ℕ, Bool, List, [], ◌∷◌, ◌++◌, cond, Some, slice_get}

-- the list with each number, where there is one, is this
abbrev pub AreLists : {X : Type 0} → (ℕ → List X) → List (List X) → Type 0
AreLists {X} lists all = (n : ℕ) (found : List X) → slice_get all n ≡ Some found → found ≡ lists n

-- A place that was behind the lists with some numbers is behind those with others.
abbrev pub AddsPlace : (ℕ → Bool) → (ℕ → Bool) → ℕ → List (List ℕ) → List (List ℕ) → Type 0
AddsPlace before after place old new =
    (lists : ℕ → List ℕ)
    → AreLists (λ n. lists n ++ cond (before n) (place ∷ []) []) old
    → AreLists (λ n. lists n ++ cond (after n) (place ∷ []) []) new
