-- What holds of the bytes of each token.
use Rattle.std.proofs.Common.{◌≡◌, ℕ, zero, suc, ◌+◌, Bool, false, List, [], ◌∷◌, take, Option, refl}
use Rattle.std.specs.List.{AllByRecursion}
use Rattle.lexer.specs.Tokens.{Token, Lexis, at_front, after, scan, scan_of, spellings}

abbrev AllPass : (List ℕ → Type 0) → List Token × Option ℕ → Type 0
AllPass P found = AllByRecursion P (spellings found.0)

after_passes : (P : List ℕ → Type 0) (t : Token) (r : List Token × Option ℕ) → P t.bytes → AllPass P r → AllPass P (after t r)
after_passes P t (ts, f) h k = (h, k)

-- what holds of the longest token in front of any bytes
module _ (l : Lexis) (P : List ℕ → Type 0) (passes : (flag : Bool) (n : ℕ) (bytes : List ℕ) → l.token_length flag bytes ≡ suc n
    → P (take (suc n) bytes)) where
  front_passes : (t : Bool) (at : ℕ) (bytes : List ℕ) (f : Bool → ℕ → List Token × Option ℕ) (n m : ℕ)
      → l.token_length t bytes ≡ m
      → ((o : Bool) (k : ℕ) → AllPass P (f o k)) → AllPass P (at_front l t at bytes f n m)
  front_passes t at bytes f zero zero e h = tt
  front_passes t at bytes f zero (suc m) e h =
      after_passes P (record { at = at; bytes = take (suc m) bytes }) (f (l.flag_after t (take (suc m) bytes)) m)
      (passes t m bytes e)
      (h (l.flag_after t (take (suc m) bytes)) m)
  front_passes t at bytes f (suc n) m e h = h t n

  scan_passes : (t : Bool) (at n : ℕ) (bytes : List ℕ) → AllPass P (scan l t at n bytes)
  scan_passes t at n [] = tt
  scan_passes t at (suc n) (b ∷ bs) = scan_passes t (at + 1) n bs
  scan_passes t at zero (b ∷ bs) =
      front_passes t at (b ∷ bs) (λ o k. scan l o (at + 1) k bs) (l.separator_length (b ∷ bs)) (l.token_length t (b ∷ bs)) refl
      (λ o k. scan_passes o (at + 1) k bs)

  pub each_token : (bytes : List ℕ) → AllByRecursion P (spellings (scan_of l bytes).0)
  each_token bytes = scan_passes false 0 0 bytes
