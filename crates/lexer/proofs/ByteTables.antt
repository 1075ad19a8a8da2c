-- A table of bytes tells what a test says, where it does so at each place.
use Rattle.std.proofs.Common.{◌≡◌, ℕ, zero, suc, ◌+◌, ◌<◌, Bool, true, false, not, ◌&&◌, if◌then◌else◌, List, [], ◌∷◌, length}
use Rattle.std.proofs.Common.{slice_index_or, refl, ap, ◌∙◌, arith}
use Rattle.std.proofs.lemmas.Bool.{and_parts}

-- from a place on, each entry is what the test says of its place
abbrev pub agrees : (ℕ → Bool) → ℕ → List Bool → Bool
agrees f n [] = true
agrees f n (x ∷ xs) = (if x then f n else not (f n)) && agrees f (n + 1) xs

same : (x y : Bool) → (if x then y else not y) ≡ true → x ≡ y
same true true e = refl
same true false e = absurd cc
same false true e = absurd cc
same false false e = refl

told_from : (f : ℕ → Bool) (n i : ℕ) (xs : List Bool) (d : Bool) → agrees f n xs ≡ true → i < length xs
    → slice_index_or xs i d ≡ f (n + i)
told_from f n i [] d e h = absurd (omega arith)
told_from f n zero (x ∷ xs) d e h =
    let s : n ≡ n + 0 = omega arith in
    same x (f n) (and_parts (if x then f n else not (f n)) (agrees f (n + 1) xs) e).0 ∙ ap f s
told_from f n (suc i) (x ∷ xs) d e h =
    let s : n + 1 + i ≡ n + suc i = omega arith in
    told_from f (n + 1) i xs d (and_parts (if x then f n else not (f n)) (agrees f (n + 1) xs) e).1 (omega (arith, h)) ∙ ap f s

pub told : (f : ℕ → Bool) (i : ℕ) (xs : List Bool) (d : Bool) → agrees f 0 xs ≡ true → length xs ≡ 256 → i < 256
    → slice_index_or xs i d ≡ f i
told f i xs d e l h = let s : 0 + i ≡ i = omega arith in told_from f 0 i xs d e (omega (arith, l, h)) ∙ ap f s
