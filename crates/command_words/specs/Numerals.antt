-- The number of cells that a word asks for. This project's rule.
use Rattle.std.specs.Prelude.{ℕ, Bool, ◌&&◌, List, length, nat_le, Option, Some, None, if◌then◌else◌}
use Rattle.std.specs.Char.{is_ascii_digit}
use Rattle.std.specs.List.{list_all}
use Rattle.std.specs.Str.Parse.{digits_value}

-- 1 to 5 decimal digits; leading zeros are digits too
abbrev pub is_numeral : List ℕ → Bool
is_numeral word = nat_le 1 (length word) && (nat_le (length word) 5 && list_all is_ascii_digit word)

-- this number of cells, where it is from 1 to 10,000
abbrev pub cells_within : ℕ → Option ℕ
cells_within cells = if nat_le 1 cells && nat_le cells 10000 then Some cells else None

-- the number of cells that 1 to 5 digits stand for, from 1 to 10,000
unfoldable pub asked_cells : List ℕ → Option ℕ
asked_cells word = if is_numeral word then cells_within (digits_value 10 word) else None
