-- Points and their numbers.
use Rattle.std.proofs.Common.{◌≡◌, ◌==◌, ℕ, zero, suc, ◌+◌, ◌*◌, ◌/◌, ◌%◌, ◌^◌, ◌<◌, ◌≤◌, Bool, true, false, nat_eq, bit_and}
use Rattle.std.proofs.Common.{List, [], ◌∷◌, ◌++◌, map, take, length, slice_set, slice_get, slice_index_or, Some, refl, sym, ◌∙◌}
use Rattle.std.proofs.Common.{ap, arith, pow-suc}
use Rattle.std.specs.Int.{bit_at}
use Rattle.std.proofs.lemmas.List.{take_more_set, take_more, get_or-map}
use Rattle.std.proofs.lemmas.Option.{get_or_from_slice_get}
use Rattle.std.proofs.lemmas.Nat.Bits.{bit_at-suc, shr_and_one, bit_at_lowest}
use Rattle.trit_cubes.specs.declared.trits.Trit.{Trit}
use Rattle.trit_cubes.specs.declared.trits.Trit.TheVariants.{Unknown}
use Rattle.trit_cubes.specs.Filling.{bit, number, same}
use Rattle.trit_cubes.specs.Sets.{AreValuesOf, has, gives, point_of}

bit-is : (b : Bool) → (bit b == 1) ≡ b
bit-is true = refl
bit-is false = refl

bit-lt : (b : Bool) → bit b < 2
bit-lt true = omega arith
bit-lt false = omega arith

-- a point is that of its number
pub point_of-number : (p : List Bool) → point_of (length p) (number p) ≡ p
point_of-number [] = refl
point_of-number (b ∷ p) =
    let low : (bit b + 2 * number p) % 2 ≡ bit b = omega (arith, bit-lt b) in
    let high : (bit b + 2 * number p) / 2 ≡ number p = omega (arith, bit-lt b) in
    rw (low, high, bit-is b, point_of-number p) refl

pub number-below : (p : List Bool) → number p < 2 ^ length p
number-below [] = omega arith
number-below (b ∷ p) = rw pow-suc (omega (arith, bit-lt b, number-below p))

pub length-point_of : (n k : ℕ) → length (point_of n k) ≡ n
length-point_of zero k = refl
length-point_of (suc n) k = ap suc (length-point_of n (k / 2))

pub take-point_of : (n m k : ℕ) → n ≤ m → take n (point_of m k) ≡ point_of n k
take-point_of zero m k h = refl
take-point_of (suc n) zero k h = absurd (omega arith)
take-point_of (suc n) (suc m) k h = ap (λ p. (k % 2 == 1) ∷ p) (take-point_of n m (k / 2) (omega arith))

place_at : (n k i : ℕ) → i < n → slice_get (point_of n k) i ≡ Some (bit_at k i == 1)
place_at zero k i h = absurd (omega arith)
place_at (suc n) k zero h = rw bit_at_lowest refl
place_at (suc n) k (suc i) h = rw bit_at-suc (place_at n (k / 2) i (omega arith))

-- one more place written
pub point_of-more : (n k i : ℕ) (point : List Bool) → i < n → i < length point → take i point ≡ take i (point_of n k)
    → take (i + 1) (slice_set point i (nat_eq (bit_and (k / 2 ^ i) 1) 1)) ≡ take (i + 1) (point_of n k)
point_of-more n k i point l m e =
    let b = nat_eq (bit_and (k / 2 ^ i) 1) 1 in
    let at : slice_get (point_of n k) i ≡ Some b = place_at n k i l ∙ ap (λ x. Some (nat_eq x 1)) (sym (shr_and_one k i)) in
    take_more_set point i b m ∙ ap (λ q. q ++ b ∷ []) e
    ∙ sym (take_more (point_of n k) i b (rw (length-point_of n k) l)
    ∙ ap (λ x. take i (point_of n k) ++ x ∷ []) (get_or_from_slice_get (point_of n k) i b b at))

-- a list whose entries are the values at the points of their places
pub values-points : (n : ℕ) (f : List Bool → Trit) (values : List Trit) → length values ≡ 2 ^ n
    → ((j : ℕ) → j < 2 ^ n → slice_index_or values j Unknown ≡ f (point_of n j)) → AreValuesOf n f values
values-points n f values long h =
    record {
      entries = long;
      values_at = λ p e.
          let below : number p < 2 ^ n = rw (← e) (number-below p) in
          h (number p) below ∙ ap f (ap (λ m. point_of m (number p)) (sym e) ∙ point_of-number p);
    }

-- the table of the points at which a function with these values has this one
pub has-value : (n : ℕ) (f : List Bool → Trit) (value : Trit) (values : List Trit) → AreValuesOf n f values
    → (p : List Bool) → length p ≡ n → has (map (same value) values) p ≡ gives value f p
has-value n f value values are p e =
    let below : number p < length values = rw (are.entries, ← e) (number-below p) in
    get_or-map (same value) values (number p) Unknown false below ∙ ap (same value) (are.values_at p e)
