-- The first places of a list and those behind them.
use Rattle.std.proofs.Common.{◌≡◌, ℕ, zero, suc, ◌<◌, ◌≤◌, Bool, true, false, ◌||◌, List, [], ◌∷◌, ◌++◌, length, take, drop, refl}
use Rattle.std.proofs.Common.{sym, ap, ◌∙◌, arith}
use Rattle.std.specs.List.{list_any}

pub either_of : (a b c : Bool) → (a || (b || c)) ≡ ((a || b) || c)
either_of true b c = refl
either_of false b c = refl

second_false : (a b : Bool) → (a || b) ≡ false → b ≡ false
second_false true b e = absurd cc
second_false false b e = e

module _ {A : Type 0} where
  pub take_all : (n : ℕ) (xs : List A) → length xs ≤ n → xs ≡ take n xs
  take_all zero [] h = refl
  take_all zero (x ∷ xs) h = absurd (omega arith)
  take_all (suc n) [] h = refl
  take_all (suc n) (x ∷ xs) h = ap (λ ys. x ∷ ys) (take_all n xs (omega arith))

  -- one of these passes exactly where one of the first does or one of those behind them
  pub any_parted : (p : A → Bool) (n : ℕ) (xs : List A) → list_any p xs ≡ (list_any p (take n xs) || list_any p (drop n xs))
  any_parted p zero xs = refl
  any_parted p (suc n) [] = refl
  any_parted p (suc n) (x ∷ xs) = ap (λ b. p x || b) (any_parted p n xs) ∙ either_of (p x) _ _

  pub none_behind : (p : A → Bool) (n : ℕ) (xs : List A) → list_any p xs ≡ false → list_any p (drop n xs) ≡ false
  none_behind p n xs e = second_false (list_any p (take n xs)) _ (sym (any_parted p n xs) ∙ e)

  drop_none : (n : ℕ) → ◌≡◌ {A = List A} [] (drop n [])
  drop_none zero = refl
  drop_none (suc n) = refl

  -- what stands behind the first n, where one more comes behind all
  pub drop_near : (n : ℕ) (xs : List A) (x : A) → length xs < n → drop n xs ≡ drop n (xs ++ x ∷ [])
  drop_near zero xs x h = absurd (omega arith)
  drop_near (suc n) [] x h = drop_none n
  drop_near (suc n) (y ∷ xs) x h = drop_near n xs x (omega arith)

  pub drop_far : (n : ℕ) (xs : List A) (x : A) → n ≤ length xs → drop n xs ++ x ∷ [] ≡ drop n (xs ++ x ∷ [])
  drop_far zero xs x h = refl
  drop_far (suc n) [] x h = absurd (omega arith)
  drop_far (suc n) (y ∷ xs) x h = drop_far n xs x (omega arith)
