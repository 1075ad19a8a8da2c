-- What is written reads back, in any language.
use Rattle.std.specs.Prelude.{◌≡◌, ℕ, List, Result, Ok}

-- What a language makes of the bytes is this, and of nothing else are they the text.
pub record ReadsBack {A F : Type 0} (answer_to : List ℕ → Result A F) (IsTextOf : List ℕ → A
    → Type 0) (bytes : List ℕ) (value : A) : Type 0 where
  pub answer : answer_to bytes ≡ Ok value
  pub only : (others : A) → IsTextOf bytes others → others ≡ value
