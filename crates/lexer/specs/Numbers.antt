-- Unsigned decimal numbers, of at most 15 digits.
use Rattle.std.specs.Prelude.{◌≡◌, ℕ, ◌+◌, ◌*◌, ◌-◌, nat_le, Bool, true, false, ◌&&◌, if◌then◌else◌, List, [], ◌∷◌, length}
use Rattle.std.specs.Prelude.{Option, Some, None}
use Rattle.std.specs.Char.{is_ascii_digit}
use Rattle.std.specs.List.{list_all}

-- the bytes are not empty, and all are digits
abbrev pub is_number : List ℕ → Bool
is_number [] = false
is_number (first ∷ others) = is_ascii_digit first && list_all is_ascii_digit others

-- each byte is a digit
abbrev pub AreDigits : List ℕ → Type 0
AreDigits [] = Unit {0}
AreDigits (d ∷ ds) = (is_ascii_digit d ≡ true) × AreDigits ds

-- the number that digits spell, behind a number that was spelled before them
abbrev pub number_after : ℕ → List ℕ → ℕ
number_after n [] = n
number_after n (d ∷ ds) = number_after (n * 10 + (d - 48)) ds

-- the number of a token: digits alone, at most 15
abbrev pub number_of : List ℕ → Option ℕ
number_of x = if is_number x && nat_le (length x) 15 then Some (number_after 0 x) else None
