-- All lists of trits of one length are those with the numbers from 0 on.
use Rattle.std.proofs.Common.{◌≡◌, ℕ, zero, suc, ◌+◌, ◌-◌, ◌*◌, ◌/◌, ◌%◌, ◌^◌, ◌<◌, ◌≤◌, List, [], ◌∷◌, ◌++◌, map, refl, sym, ◌∙◌}
use Rattle.std.proofs.Common.{ap, arith, add_assoc, zero-add, append_assoc, subst, Bool, length, take, drop}
use Rattle.std.proofs.Math.Nat.{pow-succ', one-le-pow, pow-le-pow_right}
use Rattle.std.proofs.lemmas.Nat.{div-mul-add, mod-mul-add}
use Rattle.std.proofs.lemmas.Simd.{map-map}
use Rattle.std.specs.List.{range_with_len}
use Rattle.trit_cubes.specs.declared.trits.Trit.{Trit}
use Rattle.trit_cubes.specs.declared.trits.Trit.TheVariants.{Zero, One, Unknown}
use Rattle.trit_cubes.specs.Prime.{cubes_of}
use Rattle.cell_machine.specs.Machine.{without}
use Rattle.module_tables.specs.Lists.{trit_numbered, list_numbered}

-- three lists of each length for one of the length before
pub three-more : (n : ℕ) → 3 ^ suc n ≡ 3 ^ n + (3 ^ n + 3 ^ n)
three-more n = let more : 3 ^ suc n ≡ 3 * 3 ^ n = pow-succ' 3 n in omega (arith, more)

-- numbers up to a sum, and further numbers
range-append : (a n m : ℕ) → range_with_len a (n + m) ≡ range_with_len a n ++ range_with_len (a + n) m
range-append a zero m = let none : 0 + m ≡ m = zero-add m in let from : a ≡ a + 0 = omega arith in
    ap (range_with_len a) none ∙ ap (λ k. range_with_len k m) from
range-append a (suc n) m =
    let more : suc n + m ≡ suc (n + m) = omega arith in
    let from : a + 1 + n ≡ a + suc n = omega arith in
    ap (range_with_len a) more ∙ ap (λ ks. a ∷ ks)
    (range-append (a + 1) n m ∙ ap (λ k. range_with_len (a + 1) n ++ range_with_len k m) from)

map-append : {X Y : Type 0} (f : X → Y) (xs ys : List X) → map f (xs ++ ys) ≡ map f xs ++ map f ys
map-append f [] ys = refl
map-append f (x ∷ xs) ys = ap (λ zs. f x ∷ zs) (map-append f xs ys)

map-shift : {X : Type 0} (f : ℕ → X) (a b n : ℕ) → map f (range_with_len (a + b) n) ≡ map (λ k. f (a + k)) (range_with_len b n)
map-shift f a b zero = refl
map-shift f a b (suc n) =
    ap (λ xs. f (a + b) ∷ xs) (ap (λ k. map f (range_with_len k n)) (add_assoc a b 1) ∙ map-shift f a (b + 1) n)

map-below :
    {X : Type 0} (f g : ℕ → X) (a n : ℕ) → ((k : ℕ) → k < a + n → f k ≡ g k)
    → map f (range_with_len a n) ≡ map g (range_with_len a n)
map-below f g a zero h = refl
map-below f g a (suc n) h =
    (λ i. h a (omega arith) i ∷ map-below f g (a + 1) n (λ k l. h k (omega (arith, l))) i)

-- the lists of one part of the numbers have one value in front
part :
    (n a : ℕ) (t : Trit) → trit_numbered a ≡ t → cubes_of n ≡ map (list_numbered n) (range_with_len 0 (3 ^ n))
    → map (list_numbered (suc n)) (range_with_len (a * 3 ^ n) (3 ^ n)) ≡ map (λ c. t ∷ c) (cubes_of n)
part n a t is before =
    let from : a * 3 ^ n ≡ a * 3 ^ n + 0 = omega arith in
    ap (λ k. map (list_numbered (suc n)) (range_with_len k (3 ^ n))) from
    ∙ map-shift (list_numbered (suc n)) (a * 3 ^ n) 0 (3 ^ n)
    ∙ map-below (λ k. list_numbered (suc n) (a * 3 ^ n + k)) (λ k. t ∷ list_numbered n k) 0 (3 ^ n)
    (λ k l.
    let below : k < 3 ^ n = omega (arith, l) in
    (λ i. trit_numbered (div-mul-add a (3 ^ n) k below i) ∷ list_numbered n (mod-mul-add a (3 ^ n) k below i))
    ∙ ap (λ u. u ∷ list_numbered n k) is)
    ∙ sym (map-map (λ c. t ∷ c) (list_numbered n) (range_with_len 0 (3 ^ n)))
    ∙ ap (map (λ c. t ∷ c)) (sym before)

pub cubes-numbered : (n : ℕ) → cubes_of n ≡ map (list_numbered n) (range_with_len 0 (3 ^ n))
cubes-numbered zero = refl
cubes-numbered (suc n) =
    let numbered = list_numbered (suc n) in
    let whole = 3 ^ n in
    let zeros : map numbered (range_with_len 0 whole) ≡ map (λ c. Zero ∷ c) (cubes_of n)
    = ap (λ k. map numbered (range_with_len k whole)) (omega arith) ∙ part n 0 Zero refl (cubes-numbered n) in
    let ones : map numbered (range_with_len whole whole) ≡ map (λ c. One ∷ c) (cubes_of n)
    = ap (λ k. map numbered (range_with_len k whole)) (omega arith) ∙ part n 1 One refl (cubes-numbered n) in
    let frees : map numbered (range_with_len (whole + whole) whole) ≡ map (λ c. Unknown ∷ c) (cubes_of n)
    = ap (λ k. map numbered (range_with_len k whole)) (omega arith) ∙ part n 2 Unknown refl (cubes-numbered n) in
    let split : map numbered (range_with_len 0 (whole + (whole + whole)))
    ≡ map numbered (range_with_len 0 whole)
    ++ (map numbered (range_with_len whole whole) ++ map numbered (range_with_len (whole + whole) whole))
    = ap (map numbered) (range-append 0 whole (whole + whole)
    ∙ ap (λ k. range_with_len 0 whole ++ range_with_len k (whole + whole)) (zero-add whole)
    ∙ ap (λ ks. range_with_len 0 whole ++ ks) (range-append whole whole whole))
    ∙ map-append numbered (range_with_len 0 whole) (range_with_len whole whole ++ range_with_len (whole + whole) whole)
    ∙ ap (λ xs. map numbered (range_with_len 0 whole) ++ xs)
    (map-append numbered (range_with_len whole whole) (range_with_len (whole + whole) whole)) in
    append_assoc (map (λ c. Zero ∷ c) (cubes_of n)) (map (λ c. One ∷ c) (cubes_of n)) (map (λ c. Unknown ∷ c) (cubes_of n))
    ∙ sym (ap (λ k. map numbered (range_with_len 0 k)) (three-more n)
    ∙ split
    ∙ (λ i. zeros i ++ (ones i ++ frees i)))

-- how many lists there are
pub some-lists : (n : ℕ) → 0 < 3 ^ n
some-lists n = let some : 1 ≤ 3 ^ n = one-le-pow n 3 (omega arith) in omega (arith, some)

pub few-lists : (n : ℕ) → n ≤ 10 → 3 ^ n ≤ 59049
few-lists n l = pow-le-pow_right (omega arith) l

pub three-times : (n r : ℕ) → 0 < n → r ≡ 3 ^ (n - 1) → 3 * r ≡ 3 ^ n
three-times n r l e =
    let is : suc (n - 1) ≡ n = omega (arith, l) in
    let more : 3 ^ suc (n - 1) ≡ 3 * 3 ^ (n - 1) = pow-succ' 3 (n - 1) in
    ap (λ k. 3 * k) e ∙ sym more ∙ ap (λ k. 3 ^ k) is

pub three-few : (n r : ℕ) → 3 * r ≡ 3 ^ n → n ≤ 10 → 3 * r ≤ 59049
three-few n r e l = subst (λ k. k ≤ 59049) (sym e) (few-lists n l)

-- a list less one place, as its parts
pub without-parts : {X : Type 0} (p : ℕ) (xs : List X) → p < length xs → take p xs ++ drop (p + 1) xs ≡ without p xs
without-parts p [] l = absurd (omega (arith, l))
without-parts zero (x ∷ xs) l = refl
without-parts (suc p) (x ∷ xs) l =
    let next : suc p + 1 ≡ suc (p + 1) = omega arith in
    ap (λ k. x ∷ take p xs ++ drop k (x ∷ xs)) next ∙ ap (λ ys. x ∷ ys) (without-parts p xs (omega (arith, l)))

pub list_long : (n k : ℕ) → length (list_numbered n k) ≡ n
list_long zero k = refl
list_long (suc n) k = ap suc (list_long n (k % 3 ^ n))

-- a third of the lists of one length is the number of those of the length before
pub third : (n w : ℕ) → 0 < n → w ≡ 3 ^ n → w / 3 ≡ 3 ^ (n - 1)
third n w l e =
    let is : suc (n - 1) ≡ n = omega (arith, l) in
    let more : 3 ^ suc (n - 1) ≡ 3 * 3 ^ (n - 1) = pow-succ' 3 (n - 1) in
    let times : 3 ^ (n - 1) * 3 + 0 ≡ 3 ^ n = omega arith ∙ sym more ∙ ap (λ k. 3 ^ k) is in
    ap (λ k. k / 3) (e ∙ sym times) ∙ div-mul-add (3 ^ (n - 1)) 3 0 (omega arith)
