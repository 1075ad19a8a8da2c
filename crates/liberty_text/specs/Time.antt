-- Times in whole picoseconds, rounded up (this project's rule; Liberty Reference Manual, time_unit).
use Rattle.std.specs.Prelude.{ℕ, ◌+◌, ◌*◌, ◌^◌, ◌<◌, ◌≤◌, Option, Some, None, if◌then◌else◌, nat_le, ℤ, pos, negsuc, ◌+ℤ◌, ◌*ℤ◌}
use Rattle.std.specs.Prelude.{◌≤ℤ◌}
use Rattle.std.specs.Int.{div_ceil}
use Rattle.liberty_text.specs.declared.decimal.Fixed.{Fixed}
use Rattle.liberty_text.specs.declared.time.Unit.{Unit}
use Rattle.liberty_text.specs.declared.time.Unit.TheVariants.{Ps1, Ps10, Ps100, Ns1}

-- the exponent of ten of a unit in picoseconds
abbrev pub unit_exponent : Unit → ℕ
unit_exponent Ps1 = 0
unit_exponent Ps10 = 1
unit_exponent Ps100 = 2
unit_exponent Ns1 = 3

-- the exponent of ten of a time in picoseconds
abbrev pub time_exponent : Fixed → Unit → ℤ
time_exponent value unit = value.exponent +ℤ pos (unit_exponent unit)

-- ten to an exponent, where it is not negative, and over ten to one, where it is
abbrev pub times_ten : ℤ → ℕ
times_ten (pos n) = 10 ^ n
times_ten (negsuc n) = 1

abbrev pub over_ten : ℤ → ℕ
over_ten (pos n) = 1
over_ten (negsuc n) = 10 ^ (n + 1)

-- a time is at most so many picoseconds: mantissa times ten to the exponent is at most the number
abbrev pub IsAtMost : Fixed → Unit → ℕ → Type 0
IsAtMost value unit n =
    (value.mantissa *ℤ pos (times_ten (time_exponent value unit))) ≤ℤ pos (n * over_ten (time_exponent value unit))

-- the least whole number of picoseconds that is not below a time
pub record IsRoundedUp (value : Fixed) (unit : Unit) (n : ℕ) : Type 0 where
  pub not_below : IsAtMost value unit n
  pub least : (m : ℕ) → IsAtMost value unit m → n ≤ m

-- the greatest time there is: 999,999,999,999,999 picoseconds
abbrev pub IsTooLong : Fixed → Unit → Type 0
IsTooLong value unit = (m : ℕ) → IsAtMost value unit m → 999999999999999 < m

-- a time that is not above the greatest
abbrev pub bounded : ℕ → Option ℕ
bounded n = if nat_le n 999999999999999 then Some n else None

-- the time of a number of parts
abbrev pub scaled : ℕ → ℤ → ℕ
scaled m (pos n) = m * 10 ^ n
scaled m (negsuc n) = div_ceil m (10 ^ (n + 1))

abbrev pub rounded_up : ℤ → ℤ → ℕ
rounded_up (pos m) e = scaled m e
rounded_up (negsuc m) e = 0

-- a time in picoseconds, or none above the greatest
abbrev pub picoseconds_of : Fixed → Unit → Option ℕ
picoseconds_of value unit = bounded (rounded_up value.mantissa (time_exponent value unit))

-- there is a time, of at most so many picoseconds
abbrev pub IsWithin : ℕ → Option ℕ → Type 0
IsWithin most None = ⊥
IsWithin most (Some time) = time ≤ most
