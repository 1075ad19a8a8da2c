-- Digits behind leading zeros, and what they come to.
use Rattle.std.proofs.Common.{◌≡◌, ℕ, ◌+◌, ◌-◌, ◌*◌, ◌^◌, ◌<◌, ◌≤◌, ◌++◌, Bool, true, false, List, [], ◌∷◌, length}
use Rattle.std.proofs.Common.{refl, sym, ◌∙◌, ap, subst, arith, cond, ◌==◌}
use Rattle.std.specs.Prelude.{nat_lt}
use Rattle.std.proofs.lemmas.Bool.Decides.{nat_tests}
use Rattle.std.proofs.lemmas.List.{length-append}
use Rattle.std.proofs.Math.Nat.{pow-le-pow_right}
use Rattle.lexer.proofs.DigitLemmas.{digits_grow, digit_below, value_below}
use Rattle.liberty_text.specs.Number.{digits_value, significant, AreDigits}

-- digits behind digits
pub value_append : (before : ℕ) (ds es : List ℕ) → digits_value before (ds ++ es) ≡ digits_value (digits_value before ds) es
value_append before [] es = refl
value_append before (d ∷ ds) es = value_append (before * 10 + (d - 48)) ds es

-- digits behind leading zeros, in two parts
pub significant_append : (ds es : List ℕ)
    → significant (ds ++ es) ≡ cond (significant ds == 0) (significant es) (significant ds + length es)
significant_append [] es = refl
significant_append (d ∷ ds) es = by_test (significant_append ds es) (d == 48)
  where
    by_test : (significant (ds ++ es) ≡ cond (significant ds == 0) (significant es) (significant ds + length es)) → (q : Bool) →
        cond q (significant (ds ++ es)) (length (d ∷ ds ++ es)) ≡ cond (cond q (significant ds) (length (d ∷ ds)) == 0)
        (significant es) (cond q (significant ds) (length (d ∷ ds)) + length es)
    by_test next true = next
    by_test next false =
        let some : (length (d ∷ ds) == 0) ≡ false = grind (arith, nat_tests) in
        length-append (d ∷ ds) es ∙ sym (ap (λ q. cond q (significant es) (length (d ∷ ds) + length es)) some)

-- they come to less than ten to their count
pub value_fits : (ds : List ℕ) → AreDigits ds → digits_value 0 ds < 10 ^ significant ds
value_fits [] all = omega arith
value_fits (d ∷ ds) (e, all) = by_test (value_fits ds all) (d == 48) refl
  where
    by_test : digits_value 0 ds < 10 ^ significant ds → (q : Bool) → (d == 48) ≡ q
        → digits_value (0 * 10 + (d - 48)) ds < 10 ^ cond q (significant ds) (length (d ∷ ds))
    by_test next true f =
        let zero_is : 0 ≡ 0 * 10 + (d - 48) = grind (arith, nat_tests, f) in
        subst (λ v. digits_value v ds < 10 ^ significant ds) zero_is next
    by_test next false f =
        let digit = digit_below d e in
        let first : 0 * 10 + (d - 48) < 10 ^ 1 = omega arith in
        let same : 1 + length ds ≡ length (d ∷ ds) = omega arith in
        subst (λ n. digits_value (0 * 10 + (d - 48)) ds < 10 ^ n) same (value_below 1 (0 * 10 + (d - 48)) ds all first)

-- a number behind which two digits stand
pub two_more : (before : ℕ) (ds : List ℕ) → 0 < before → 1 < length ds → 30 < digits_value before ds
two_more before [] h long = absurd (omega arith)
two_more before (a ∷ []) h long = absurd (omega arith)
two_more before (a ∷ b ∷ ds) h long =
    let grown = digits_grow ((before * 10 + (a - 48)) * 10 + (b - 48)) ds in
    omega (arith, grown, h)

-- three digits behind leading zeros come to more than 30
pub value_exceeds : (ds : List ℕ) → AreDigits ds → 2 < significant ds → 30 < digits_value 0 ds
value_exceeds [] all long = absurd (omega arith)
value_exceeds (d ∷ ds) (e, all) long = by_test (value_exceeds ds all) (d == 48) refl long
  where
    by_test : (2 < significant ds → 30 < digits_value 0 ds) → (q : Bool) → (d == 48) ≡ q
        → 2 < cond q (significant ds) (length (d ∷ ds)) → 30 < digits_value (0 * 10 + (d - 48)) ds
    by_test next true f h =
        let zero_is : 0 ≡ 0 * 10 + (d - 48) = grind (arith, nat_tests, f) in
        subst (λ v. 30 < digits_value v ds) zero_is (next h)
    by_test next false f h =
        let some : 0 < 0 * 10 + (d - 48) = grind (arith, nat_tests, e, f) in
        let more : 1 < length ds = omega (arith, h) in
        two_more (0 * 10 + (d - 48)) ds some more

-- so many digits behind leading zeros come to less than ten to this count
pub value_within : (count : ℕ) (ds : List ℕ) → AreDigits ds → significant ds ≤ count → digits_value 0 ds < 10 ^ count
value_within count ds all few =
    let ten : 0 < 10 = omega arith in
    let power : 10 ^ significant ds ≤ 10 ^ count = pow-le-pow_right ten few in
    let fits = value_fits ds all in
    omega (arith, power, fits)

pub short_value : (ds : List ℕ) → AreDigits ds → significant ds ≤ 2 → digits_value 0 ds < 2 ^ 63
short_value ds all few = let fits = value_within 2 ds all few in omega (arith, fits)

pub digits_append : (ds es : List ℕ) → AreDigits ds → AreDigits es → AreDigits (ds ++ es)
digits_append [] es all more = more
digits_append (d ∷ ds) es (e, all) more = (e, digits_append ds es all more)

-- eighteen digits behind leading zeros fit a signed number of 64 bits
pub long_value : (ds es : List ℕ) → AreDigits ds → AreDigits es → nat_lt 18 (significant (ds ++ es)) ≡ false
    → digits_value (digits_value 0 ds) es < 2 ^ 63
long_value ds es all more e =
    let few : significant (ds ++ es) ≤ 18 = grind (arith, nat_tests, e) in
    let fits = value_within 18 (ds ++ es) (digits_append ds es all more) few in
    let same = value_append 0 ds es in
    omega (arith, fits, same)

pub first_value : (ds es : List ℕ) → AreDigits ds → AreDigits es → nat_lt 18 (significant (ds ++ es)) ≡ false
    → digits_value 0 ds < 2 ^ 63
first_value ds es all more e =
    let fits = long_value ds es all more e in
    let grown = digits_grow (digits_value 0 ds) es in
    omega (arith, fits, grown)
