-- The numbers of a Liberty text: an optional sign, digits with an optional point, and an optional
-- exponent (Liberty Reference Manual, floating-point values). The bounds are this project's rule.
use Rattle.std.specs.Prelude.{◌≡◌, ◌⊎◌, ◌↔◌, ℕ, ◌+◌, ◌*◌, ◌^◌, ◌<◌, ◌++◌, Bool, true, false, List, [], ◌∷◌, length, take}
use Rattle.std.specs.Prelude.{drop, Option, Some, None, Result, Ok, Err, if◌then◌else◌, ◌==◌, nat_lt, ◌&&◌, ◌||◌, ℤ, pos, neg_ℤ}
use Rattle.std.specs.Prelude.{◌+ℤ◌, ◌-ℤ◌, ◌*ℤ◌}
use Rattle.std.specs.Char.{is_ascii_digit}
use Rattle.std.specs.List.{prefix_len}
pub use Rattle.lexer.specs.Numbers.{AreDigits}
use Rattle.lexer.specs.Numbers.{number_after}
use Rattle.liberty_text.specs.declared.decimal.Fixed.{Fixed}
use Rattle.liberty_text.specs.declared.decimal.NumberFault.{NumberFault}
use Rattle.liberty_text.specs.declared.decimal.NumberFault.TheVariants.{NotNumber, TooManyDigits, TooLarge}

-- a number as it is written: its sign, the digits before and behind its point, and its exponent
pub record Written : Type 0 where
  pub negative : Bool
  pub whole : List ℕ
  pub fraction : List ℕ
  pub exponent_negative : Bool
  pub exponent : List ℕ

abbrev pub is_digit : ℕ → Bool
is_digit = is_ascii_digit

-- a sign, and whether it is a minus
pub data IsSign : List ℕ → Bool → Type 0 where
  no_sign : IsSign [] false
  plus : IsSign (43 ∷ []) false
  minus : IsSign (45 ∷ []) true

-- a point and the digits that may stand behind it
pub data IsPoint : List ℕ → List ℕ → Type 0 where
  no_point : IsPoint [] []
  some_point : {fraction : List ℕ} → IsPoint (46 ∷ []) fraction

-- an exponent, whether it is negative, and its digits
pub data IsExponent : List ℕ → Bool → List ℕ → Type 0 where
  no_exponent : IsExponent [] false []
  some_exponent : {tail digits : List ℕ} {negative : Bool} (mark : ℕ) (sign : List ℕ) →
      (mark == 101 || mark == 69) ≡ true → IsSign sign negative → AreDigits digits → 0 < length digits →
      tail ≡ mark ∷ sign ++ digits → IsExponent tail negative digits

-- the text is this number
pub record IsNumber (text : List ℕ) (n : Written) : Type 0 where
  pub sign : List ℕ
  pub dot : List ℕ
  pub tail : List ℕ
  pub sign_is : IsSign sign n.negative
  pub dot_is : IsPoint dot n.fraction
  pub tail_is : IsExponent tail n.exponent_negative n.exponent
  pub whole_is : AreDigits n.whole
  pub fraction_is : AreDigits n.fraction
  pub some : 0 < length n.whole + length n.fraction
  pub text_is : text ≡ sign ++ (n.whole ++ (dot ++ (n.fraction ++ tail)))

-- how many digits stand at the front of the bytes
abbrev pub digit_run : List ℕ → ℕ
digit_run = prefix_len is_digit

-- whether a minus stands at the front, and what stands behind the sign
abbrev pub sign_of : List ℕ → Bool × List ℕ
sign_of [] = (false, [])
sign_of (b ∷ bs) = if b == 45 then (true, bs) else (if b == 43 then (false, bs) else (false, b ∷ bs))

-- the digits behind a point, and what stands behind them
abbrev pub fraction_of : List ℕ → List ℕ × List ℕ
fraction_of [] = ([], [])
fraction_of (b ∷ bs) = if b == 46 then (take (digit_run bs) bs, drop (digit_run bs) bs) else ([], b ∷ bs)

-- the bytes are digits, one at least
abbrev pub is_run : List ℕ → Bool
is_run bs = nat_lt 0 (length bs) && digit_run bs == length bs

-- the sign and the digits of an exponent
abbrev pub exponent_of : List ℕ → Option (Bool × List ℕ)
exponent_of [] = Some (false, [])
exponent_of (b ∷ bs) = if (b == 101 || b == 69) && is_run (sign_of bs).1 then Some (sign_of bs) else None

abbrev pub written_with : Bool → List ℕ → List ℕ → Option (Bool × List ℕ) → Option Written
written_with negative whole fraction None = None
written_with negative whole fraction (Some e) =
    if nat_lt 0 (length whole + length fraction)
    then Some (record { negative = negative; whole = whole; fraction = fraction; exponent_negative = e.0; exponent = e.1 })
    else None

-- what stands behind the digits before the point
abbrev pub written_behind : Bool → List ℕ → List ℕ × List ℕ → Option Written
written_behind negative whole rest = written_with negative whole rest.0 (exponent_of rest.1)

-- the number that a text is
abbrev pub written_of : List ℕ → Option Written
written_of text =
    let body = (sign_of text).1 in
    written_behind (sign_of text).0 (take (digit_run body) body) (fraction_of (drop (digit_run body) body))

-- a text is a number in one way at most, and this one is found
abbrev pub IsOneNumber : List ℕ → Type 0
IsOneNumber text = (n : Written) → IsNumber text n ↔ (written_of text ≡ Some n)

-- the digits as a number, behind digits that are this number
abbrev pub digits_value : ℕ → List ℕ → ℕ
digits_value = number_after

-- how many digits stand behind the leading zeros
abbrev pub significant : List ℕ → ℕ
significant [] = 0
significant (d ∷ ds) = if d == 48 then significant ds else length (d ∷ ds)

-- a natural number with a sign
abbrev pub signed : Bool → ℕ → ℤ
signed false n = pos n
signed true n = neg_ℤ (pos n)

-- the exponent of ten that is written
abbrev pub exponent_written : Written → ℤ
exponent_written n = signed n.exponent_negative (digits_value 0 n.exponent)

-- more than 18 digits behind the leading zeros, the point taken out
abbrev pub HasTooManyDigits : Written → Type 0
HasTooManyDigits n = 18 < significant (n.whole ++ n.fraction)

-- an exponent outside -30 to 30, or more than 30 digits behind the point
abbrev pub IsTooLarge : Written → Type 0
IsTooLarge n = (30 < digits_value 0 n.exponent) ⊎ (30 < length n.fraction)

-- The mantissa times ten to the exponent is the number that is written, which is, but for its sign,
-- the digits before the point, and the digits behind it over ten to their count, times ten to the
-- written exponent. Both sides are times a power of ten that makes them whole.
abbrev pub IsValueOf : Written → Fixed → Type 0
IsValueOf n f =
    (a b : ℕ) → (f.exponent +ℤ pos b) ≡ ((exponent_written n -ℤ pos (length n.fraction)) +ℤ pos a) →
    (f.mantissa *ℤ pos (10 ^ a)) ≡ (signed n.negative
    (digits_value 0 n.whole * 10 ^ length n.fraction + digits_value 0 n.fraction) *ℤ pos (10 ^ b))

-- a text is a number within the bounds, and its value is this
abbrev pub IsFixedOf : List ℕ → Fixed → Type 0
IsFixedOf text f = (n : Written) × IsNumber text n × (HasTooManyDigits n → ⊥) × (IsTooLarge n → ⊥) × IsValueOf n f

-- why a text gives no number
abbrev pub IsNumberFaultOf : List ℕ → NumberFault → Type 0
IsNumberFaultOf text NotNumber = (n : Written) → IsNumber text n → ⊥
IsNumberFaultOf text TooManyDigits = (n : Written) × IsNumber text n × HasTooManyDigits n
IsNumberFaultOf text TooLarge = (n : Written) × IsNumber text n × (HasTooManyDigits n → ⊥) × IsTooLarge n

-- the digits as they are written, and the exponent less the digits behind the point
abbrev pub fixed_written : Written → Fixed
fixed_written n = record {
  mantissa = signed n.negative (digits_value (digits_value 0 n.whole) n.fraction);
  exponent = exponent_written n -ℤ pos (length n.fraction);
}

abbrev pub fixed_with : Written → Result Fixed NumberFault
fixed_with n =
    if nat_lt 18 (significant (n.whole ++ n.fraction)) then Err TooManyDigits
    else (if nat_lt 30 (digits_value 0 n.exponent) || nat_lt 30 (length n.fraction) then Err TooLarge
    else Ok (fixed_written n))

abbrev pub fixed_found : Option Written → Result Fixed NumberFault
fixed_found None = Err NotNumber
fixed_found (Some n) = fixed_with n

-- the number of a text, or why it gives none
abbrev pub fixed_of : List ℕ → Result Fixed NumberFault
fixed_of text = fixed_found (written_of text)

-- what the spelling of a number shows of it
abbrev pub IsSpelled : Bool → List ℕ → List ℕ → Bool → List ℕ → Option Written → Type 0
IsSpelled negative whole fraction exponent_negative exponent found =
    found ≡ Some (record {
      negative = negative;
      whole = whole;
      fraction = fraction;
      exponent_negative =
          exponent_negative;
      exponent = exponent;
    })
