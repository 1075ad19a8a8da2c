-- Times in picoseconds, rounded up.
use Rattle.std.proofs.Common.{◌≡◌, ℕ, ◌+◌, ◌*◌, ◌/◌, ◌%◌, ◌^◌, ◌<◌, ◌≤◌, suc, Bool, true, false, Option, Some, None, refl, sym}
use Rattle.std.proofs.Common.{ap, subst, ◌∙◌, arith, cond, add-one}
use Rattle.std.specs.Prelude.{nat_le, ℤ, pos, negsuc, neg_ℤ, nat_abs, ◌*ℤ◌, ◌≤ℤ◌, ◌<ℤ◌, MatchOption, IfSome}
use Rattle.std.specs.Int.{div_ceil}
use Rattle.std.proofs.lemmas.Bool.Decides.{nat_tests}
use Rattle.std.proofs.lemmas.Int.{ints}
use Rattle.std.proofs.lemmas.Grind.{div_ceil_times}
use Rattle.std.proofs.Math.Nat.{pow-le-pow_right, one-le-pow, mul-le-mul_right, lt_of_mul-lt-mul_right, lt-div-mul-add}
use Rattle.std.proofs.Math.Nat.{div-add-mod}
use Rattle.liberty_text.specs.declared.decimal.Fixed.{Fixed}
use Rattle.liberty_text.specs.declared.time.Unit.{Unit}
use Rattle.liberty_text.specs.Time.{time_exponent, times_ten, over_ten, IsRoundedUp, IsTooLong, bounded, scaled, rounded_up}
use Rattle.liberty_text.specs.Time.{picoseconds_of, IsWithin}

-- a number of parts is at most the whole
pub quotient_part : (n p m : ℕ) → m ≤ n / p → m * p ≤ n
quotient_part n p m h =
    let product : m * p ≤ n / p * p = mul-le-mul_right p h in
    let whole : p * (n / p) + n % p ≡ n = div-add-mod n p in
    omega (arith, product, whole)

pub product_fits : (m p : ℕ) → 0 < p → m ≤ 999999999999999 / p → m * p < 2 ^ 64
product_fits m p some h =
    let part = quotient_part 999999999999999 p m h in
    omega (arith, part)

pub product_bounded : (m p : ℕ) → 0 < p → m ≤ 999999999999999 / p → bounded (m * p) ≡ Some (m * p)
product_bounded m p some h =
    let part = quotient_part 999999999999999 p m h in
    let test : nat_le (m * p) 999999999999999 ≡ true = grind (arith, nat_tests, part) in
    ap (λ q. cond q (Some (m * p)) None) test

-- what is above the greatest time is no time
pub above : (n : ℕ) → 999999999999999 < n → bounded n ≡ None
above n h =
    let test : nat_le n 999999999999999 ≡ false = grind (arith, nat_tests, h) in
    ap (λ q. cond q (Some n) None) test

pub product_exceeds : (m p : ℕ) → 0 < p → 999999999999999 / p < m → bounded (m * p) ≡ None
product_exceeds m p some h =
    let next : 999999999999999 / p + 1 ≤ m = omega arith in
    let product : (999999999999999 / p + 1) * p ≤ m * p = mul-le-mul_right p next in
    let whole : 999999999999999 < 999999999999999 / p * p + p = lt-div-mul-add some in
    above (m * p) (omega (arith, product, whole))

-- a power of ten is positive
pub power_some : (n : ℕ) → 0 < 10 ^ n
power_some n = let one = one-le-pow n 10 (omega arith) in omega (arith, one)

-- a positive number times ten to more than fifteen is above the greatest time
pub far_up : (m : ℕ) (e : ℤ) → 0 < m → pos 15 <ℤ e → bounded (scaled m e) ≡ None
far_up m (pos n) some h =
    let ten : 0 < 10 = omega arith in
    let large : 16 ≤ n = omega (arith, ints, h) in
    let power : 10 ^ 16 ≤ 10 ^ n = pow-le-pow_right ten large in
    let one : 1 ≤ m = omega arith in
    let product : 1 * 10 ^ n ≤ m * 10 ^ n = mul-le-mul_right (10 ^ n) one in
    above (m * 10 ^ n) (omega (arith, power, product))
far_up m (negsuc n) some h = absurd (omega (arith, ints, h))

-- a part of a larger whole, rounded up, is one
pub part_of_one : (m q : ℕ) → 0 < m → m < q → div_ceil m q ≡ 1
part_of_one m q some h =
    let c = div_ceil m q in
    let positive : 0 < q = omega arith in
    let times = div_ceil_times m q positive in
    let low : 0 * q < c * q = omega (arith, times.0, some) in
    let high : c * q < 2 * q = omega (arith, times.1, h) in
    let above_zero = lt_of_mul-lt-mul_right q {m = 0} {n = c} low in
    let below_two = lt_of_mul-lt-mul_right q {m = c} {n = 2} high in
    omega (arith, above_zero, below_two)

pub far_down : (m : ℕ) (e : ℤ) → 0 < m → m < 2 ^ 63 → e <ℤ negsuc 17 → bounded (scaled m e) ≡ Some 1
far_down m (pos n) some small h = absurd (omega (arith, ints, h))
far_down m (negsuc n) some small h =
    let ten : 0 < 10 = omega arith in
    let large : 19 ≤ n + 1 = omega (arith, ints, h) in
    let power : 10 ^ 19 ≤ 10 ^ (n + 1) = pow-le-pow_right ten large in
    ap bounded (part_of_one m (10 ^ (n + 1)) some (omega (arith, power, small)))

pub scaled_up : (m : ℕ) (e : ℤ) → pos 0 ≤ℤ e → scaled m e ≡ m * 10 ^ nat_abs e
scaled_up m (pos n) h = refl
scaled_up m (negsuc n) h = absurd (omega (arith, ints, h))

pub scaled_down : (m : ℕ) (e : ℤ) → e <ℤ pos 0 → scaled m e ≡ div_ceil m (10 ^ nat_abs e)
scaled_down m (pos n) h = absurd (omega (arith, ints, h))
scaled_down m (negsuc n) h = ap (λ k. div_ceil m (10 ^ k)) (add-one n)

-- at most, at natural numbers
pub at_most_from : (a b : ℕ) → a ≤ b → pos a ≤ℤ pos b
at_most_from a b h = omega (arith, ints, h)

pub at_most_to : (a b : ℕ) → pos a ≤ℤ pos b → a ≤ b
at_most_to a b h = omega (arith, ints, h)

pub negative_at_most : (a b : ℕ) → neg_ℤ (pos a) ≤ℤ pos b
negative_at_most a b = omega (arith, ints)

pub scaled_not_below : (m : ℕ) (e : ℤ) → m * times_ten e ≤ scaled m e * over_ten e
scaled_not_below m (pos n) = omega arith
scaled_not_below m (negsuc n) = let times = div_ceil_times m (10 ^ (n + 1)) (power_some (n + 1)) in omega (arith, times.0)

pub scaled_least : (m : ℕ) (e : ℤ) (k : ℕ) → m * times_ten e ≤ k * over_ten e → scaled m e ≤ k
scaled_least m (pos n) k h = omega (arith, h)
scaled_least m (negsuc n) k h =
    let q = 10 ^ (n + 1) in
    let times = div_ceil_times m q (power_some (n + 1)) in
    let high : div_ceil m q * q < (k + 1) * q = omega (arith, times.1, h) in
    let below = lt_of_mul-lt-mul_right q {m = div_ceil m q} {n = k + 1} high in
    omega (arith, below)

pub rounded_not_below : (m e : ℤ) → (m *ℤ pos (times_ten e)) ≤ℤ pos (rounded_up m e * over_ten e)
rounded_not_below (pos m) e = at_most_from (m * times_ten e) (scaled m e * over_ten e) (scaled_not_below m e)
rounded_not_below (negsuc m) e = negative_at_most (suc m * times_ten e) (0 * over_ten e)

pub rounded_least : (m e : ℤ) (k : ℕ) → (m *ℤ pos (times_ten e)) ≤ℤ pos (k * over_ten e) → rounded_up m e ≤ k
rounded_least (pos m) e k h = scaled_least m e k (at_most_to (m * times_ten e) (k * over_ten e) h)
rounded_least (negsuc m) e k h = omega arith

pub is_rounded_up : (value : Fixed) (unit : Unit) → IsRoundedUp value unit (rounded_up value.mantissa (time_exponent value unit))
is_rounded_up value unit = record {
  not_below = rounded_not_below value.mantissa (time_exponent value unit);
  least = rounded_least value.mantissa (time_exponent value unit);
}

abbrev pub SaysTime : Fixed → Unit → Option ℕ → Type 0
SaysTime value unit found = MatchOption found (IsTooLong value unit) (IsRoundedUp value unit)
    × IfSome found (λ time. time ≤ 999999999999999)

pub time_says : (value : Fixed) (unit : Unit) → SaysTime value unit (picoseconds_of value unit)
time_says value unit = by_test (rounded_up value.mantissa (time_exponent value unit)) (is_rounded_up value unit)
    (nat_le (rounded_up value.mantissa (time_exponent value unit)) 999999999999999) refl
  where
    by_test : (n : ℕ) → IsRoundedUp value unit n → (q : Bool) → nat_le n 999999999999999 ≡ q
        → SaysTime value unit (cond q (Some n) None)
    by_test n k true e = (k, grind (arith, nat_tests, e))
    by_test n k false e =
        let long : 999999999999999 < n = grind (arith, nat_tests, e) in
        (λ m h. let less = k.least m h in omega (arith, long, less), tt)

pub time_answer : (value : Fixed) (unit : Unit) (found : Option ℕ) → found ≡ picoseconds_of value unit → SaysTime value unit found
time_answer value unit found e = subst (SaysTime value unit) (sym e) (time_says value unit)

-- a product that is not below the number of parts shows that the time is not above

pub parts_fit : (most parts : ℕ) → most ≤ 999999999999999 → parts ≤ 10000 → most * parts < 2 ^ 64
parts_fit most parts h few =
    let product : most * parts ≤ 999999999999999 * parts = mul-le-mul_right parts h in
    omega (arith, product, few)

within_bounded : (most n : ℕ) → n ≤ most → most ≤ 999999999999999 → IsWithin most (bounded n)
within_bounded most n h small =
    let test : nat_le n 999999999999999 ≡ true = grind (arith, nat_tests, h, small) in
    subst (IsWithin most) (sym (ap (λ q. cond q (Some n) None) test)) h

whole_within : (m e : ℤ) (most parts : ℕ) → pos 0 ≤ℤ m → parts ≡ over_ten e → times_ten e ≡ 1
    → nat_abs m ≤ most * parts → rounded_up m e ≤ most
whole_within (pos m) e most parts some p t h =
    let product : m * times_ten e ≡ m = ap (λ k. m * k) t ∙ omega arith in
    let whole : most * parts ≡ most * over_ten e = ap (λ k. most * k) p in
    scaled_least m e most (omega (arith, product, whole, h))
whole_within (negsuc m) e most parts some p t h = omega arith

pub shown_within : (m e : ℤ) (most parts : ℕ) → pos 0 ≤ℤ m → most ≤ 999999999999999 → parts ≡ over_ten e → times_ten e ≡ 1
    → nat_abs m ≤ most * parts → IsWithin most (bounded (rounded_up m e))
shown_within m e most parts some small p t h = within_bounded most (rounded_up m e) (whole_within m e most parts some p t h) small
