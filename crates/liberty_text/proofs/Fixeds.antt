-- The number that a text gives, or why it gives none.
use Rattle.std.proofs.Common.{◌≡◌, ℕ, ◌+◌, ◌-◌, ◌*◌, ◌^◌, ◌++◌, Bool, true, false, List, [], ◌∷◌, Option, Some, None, Result, Ok}
use Rattle.std.proofs.Common.{Err, length, refl, ◌∙◌, ap, subst, arith, cond, inl, inr, ◌||◌}
use Rattle.std.specs.Prelude.{nat_lt, ℤ, pos, ◌+ℤ◌, ◌-ℤ◌, ◌*ℤ◌}
use Rattle.std.proofs.lemmas.Bool.Decides.{nat_tests}
use Rattle.std.proofs.lemmas.Int.{ints}
use Rattle.std.proofs.Math.Nat.{pow-suc}
use Rattle.liberty_text.specs.declared.decimal.Fixed.{Fixed}
use Rattle.liberty_text.specs.declared.decimal.NumberFault.{NumberFault}
use Rattle.liberty_text.specs.declared.decimal.NumberFault.TheVariants.{TooManyDigits, TooLarge}
use Rattle.liberty_text.specs.Number.{Written, IsNumber, written_of, digits_value, significant, signed, exponent_written}
use Rattle.liberty_text.specs.Number.{IsTooLarge, IsValueOf, IsFixedOf, IsNumberFaultOf, fixed_written, fixed_found, fixed_of}
use Rattle.liberty_text.proofs.Spelling.{number_sound, number_complete}

-- digits behind a number are those times ten to their count
pub value_split : (before : ℕ) (ds : List ℕ) → digits_value before ds ≡ before * 10 ^ length ds + digits_value 0 ds
value_split before [] = omega arith
value_split before (d ∷ ds) =
    let x = d - 48 in
    let power : 10 ^ length (d ∷ ds) ≡ 10 ^ length ds * 10 = pow-suc 10 (length ds) in
    let left : digits_value (before * 10 + x) ds ≡ (before * 10 + x) * 10 ^ length ds + digits_value 0 ds =
    value_split (before * 10 + x) ds in
    let right : digits_value (0 * 10 + x) ds ≡ (0 * 10 + x) * 10 ^ length ds + digits_value 0 ds = value_split (0 * 10 + x) ds in
    let product : before * 10 ^ length (d ∷ ds) ≡ before * (10 ^ length ds * 10) = ap (λ p. before * p) power in
    omega (arith, left, right, product)

-- equal exponents make equal powers
pub same_power : (e : ℤ) (a b : ℕ) → (e +ℤ pos b) ≡ (e +ℤ pos a) → a ≡ b
same_power e a b h = omega (arith, ints, h)

pub value_is : (n : Written) → IsValueOf n (fixed_written n)
value_is n a b h =
    let powers : a ≡ b = same_power (exponent_written n -ℤ pos (length n.fraction)) a b h in
    ap (λ m. signed n.negative m *ℤ pos (10 ^ a)) (value_split (digits_value 0 n.whole) n.fraction)
    ∙ ap (λ k. signed n.negative (digits_value 0 n.whole * 10 ^ length n.fraction + digits_value 0 n.fraction) *ℤ pos (10 ^ k))
    powers

-- what the answer for a number says
abbrev pub Says : List ℕ → Result Fixed NumberFault → Type 0
Says text (Ok f) = IsFixedOf text f
Says text (Err e) = IsNumberFaultOf text e

pub fixed_says : (text : List ℕ) → Says text (fixed_of text)
fixed_says text = by_spelling (written_of text) refl
  where
    by_bounds : (n : Written) → IsNumber text n → (p q r : Bool) → nat_lt 18 (significant (n.whole ++ n.fraction)) ≡ p →
        nat_lt 30 (digits_value 0 n.exponent) ≡ q → nat_lt 30 (length n.fraction) ≡ r →
        Says text (cond p (Err TooManyDigits) (cond (q || r) (Err TooLarge) (Ok (fixed_written n))))
    by_bounds n k true q r e f g = (n, k, grind (arith, nat_tests, e))
    by_bounds n k false true r e f g =
        (n, k, λ many. absurd (grind (arith, nat_tests, e, many)), inl (grind (arith, nat_tests, f)))
    by_bounds n k false false true e f g =
        (n, k, λ many. absurd (grind (arith, nat_tests, e, many)), inr (grind (arith, nat_tests, g)))
    by_bounds n k false false false e f g =
        (n, k, λ many. absurd (grind (arith, nat_tests, e, many)), too_large f g, value_is n)
      where
        too_large : nat_lt 30 (digits_value 0 n.exponent) ≡ false → nat_lt 30 (length n.fraction) ≡ false → IsTooLarge n → ⊥
        too_large f g (inl h) = absurd (grind (arith, nat_tests, f, h))
        too_large f g (inr h) = absurd (grind (arith, nat_tests, g, h))

    by_spelling : (o : Option Written) → written_of text ≡ o → Says text (fixed_found o)
    by_spelling None e = λ n k. let found = number_complete text n k in absurd cc
    by_spelling (Some n) e = by_bounds n (number_sound text n e) (nat_lt 18 (significant (n.whole ++ n.fraction)))
        (nat_lt 30 (digits_value 0 n.exponent)) (nat_lt 30 (length n.fraction)) refl refl refl

pub fixed_number : (text : List ℕ) (f : Fixed) → fixed_of text ≡ Ok f → IsFixedOf text f
fixed_number text f e = subst (Says text) e (fixed_says text)

pub fixed_fault : (text : List ℕ) (e : NumberFault) → fixed_of text ≡ Err e → IsNumberFaultOf text e
fixed_fault text e f = subst (Says text) f (fixed_says text)
