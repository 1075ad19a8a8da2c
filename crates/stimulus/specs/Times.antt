-- Times as they are written (this project's format).
use Rattle.std.specs.Prelude.{ℕ, ◌+◌, ◌-◌, ◌*◌, Bool, ◌&&◌, ◌||◌, ◌==◌, nat_lt, nat_le, List, [], ◌∷◌, length, Option, Some, None}
use Rattle.std.specs.Prelude.{if◌then◌else◌}

abbrev pub is_digit : ℕ → Bool
is_digit byte = nat_le 48 byte && nat_le byte 57

-- the number that digits stand for behind the digits of this number, if all are digits
abbrev pub digits_after : ℕ → List ℕ → Option ℕ
digits_after number [] = Some number
digits_after number (byte ∷ more) = if is_digit byte then digits_after (10 * number + (byte - 48)) more else None

-- the time in picoseconds that 1 to 15 digits stand for; leading zeros are digits too
abbrev pub time_of : List ℕ → Option ℕ
time_of word = if length word == 0 || nat_lt 15 (length word) then None else digits_after 0 word
