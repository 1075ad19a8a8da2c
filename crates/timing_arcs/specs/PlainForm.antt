-- The form that nearly all entries of tables have, in which they are read at once: digits, a point and digits, 1 to 18 in all.
-- (This project's rule.)
use Rattle.std.specs.Prelude.{ℕ, ◌+◌, Bool, false, ◌&&◌, List, [], ◌∷◌, drop, nat_lt, nat_le, ◌==◌}
use Rattle.liberty_text.specs.Number.{digit_run}
use Rattle.timing_arcs.specs.Tables.{is_separator}
use Rattle.timing_arcs.specs.Words.{word_length}

-- the text begins with a point
abbrev pub starts_at_point : List ℕ → Bool
starts_at_point [] = false
starts_at_point (b ∷ bs) = b == 46

-- behind so many digits stand a point and digits, behind which the entry ends
abbrev pub is_plain_behind : ℕ → List ℕ → Bool
is_plain_behind whole [] = false
is_plain_behind whole (b ∷ fraction) =
    b == 46
    && ((word_length is_separator (drop (digit_run fraction) fraction) == 0)
    && (nat_lt 0 (whole + digit_run fraction) && nat_le (whole + digit_run fraction) 18))

-- the entry at the front of a text is of this form
abbrev pub is_plain : List ℕ → Bool
is_plain text = is_plain_behind (digit_run text) (drop (digit_run text) text)
