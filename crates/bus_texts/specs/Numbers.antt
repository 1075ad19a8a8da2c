-- The numbers of bits, and the widths of banks.
use Rattle.std.specs.Prelude.{ℕ, zero, suc, ◌+◌, ◌-◌, ◌*◌, min, ◌==◌, nat_le, nat_lt, List, [], ◌∷◌, length, Option, Some, None}
use Rattle.std.specs.Prelude.{if◌then◌else◌}
use Rattle.std.specs.Char.{is_ascii_digit}

-- The number of some digits behind those of another. All above 999 count as 1,000: no bit and no width is so great.
abbrev pub digits_behind : ℕ → List ℕ → Option ℕ
digits_behind number [] = Some number
digits_behind number (d ∷ ds) = if is_ascii_digit d then digits_behind (min (number * 10 + (d - 48)) 1000) ds else None

-- the number of a text of digits alone, at least one
abbrev pub digits_number : List ℕ → Option ℕ
digits_number text = if length text == 0 then None else digits_behind 0 text

-- the number of one to three digits
abbrev pub short_number : List ℕ → Option ℕ
short_number text = if nat_le (length text) 3 then digits_number text else None

-- From a bit on as many bits as this, of which each next one is by one nearer to another.
abbrev pub next_bit : ℕ → ℕ → ℕ
next_bit to bit = if nat_lt bit to then bit + 1 else bit - 1

abbrev pub bits_towards : ℕ → ℕ → ℕ → List ℕ
bits_towards to zero bit = []
bits_towards to (suc n) bit = bit ∷ bits_towards to n (next_bit to bit)
