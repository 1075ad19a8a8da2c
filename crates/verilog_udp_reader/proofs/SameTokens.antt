-- Tokens that are compared with words.
use Rattle.std.proofs.Common.{◌≡◌, ℕ, ◌==◌, Bool, true, false, List, [], ◌∷◌, length, refl, ap}
use Rattle.std.specs.Str.{bytes_eq}
use Rattle.std.proofs.lemmas.Slice.Eq.{bytes_eq-Decides}
use Rattle.std.proofs.Math.Bool.{and-false as and_false, and-true as and_true}

-- one byte alone is another where they are equal
pub same_byte : (x y : ℕ) → bytes_eq (x ∷ []) (y ∷ []) ≡ (x == y)
same_byte x y = and_true (x == y)

pub no_byte : (y : ℕ) → bytes_eq [] (y ∷ []) ≡ false
no_byte y = refl

pub more_bytes : (x z y : ℕ) (s : List ℕ) → bytes_eq (x ∷ z ∷ s) (y ∷ []) ≡ false
more_bytes x z y s = and_false (x == y)

-- tokens of unlike lengths are not the same
pub unlike : (token word : List ℕ) → (length token ≡ length word → ⊥) → bytes_eq token word ≡ false
unlike token word h = by (bytes_eq token word) refl
  where
    by : (b : Bool) → bytes_eq token word ≡ b → b ≡ false
    by true e = absurd (h (ap length ((bytes_eq-Decides token word).0 e)))
    by false e = refl
