-- The words of a text one after another.
use Rattle.std.specs.Prelude.{ℕ, suc, ◌+◌, ◌-◌, ◌*◌, Bool, List, [], ◌∷◌, length, ◌==◌, Option, if◌then◌else◌}
use Rattle.liberty_text.specs.Number.{is_digit}
use Rattle.liberty_text.specs.declared.time.Unit.{Unit as TimeUnit}
use Rattle.timing_arcs.specs.declared.tables.Sum.{Sum}
use Rattle.timing_arcs.specs.Sums.{with_entry}

-- how many bytes stand before the first separator
abbrev pub word_length : (ℕ → Bool) → List ℕ → ℕ
word_length is_separator [] = 0
word_length is_separator (b ∷ bs) = if is_separator b then 0 else suc (word_length is_separator bs)

-- with a word as an entry, in the statement at this offset, if it has a byte
abbrev pub with_word : Option TimeUnit → ℕ → Sum → List ℕ → Sum
with_word unit at sum word = if length word == 0 then sum else with_entry unit at sum word

-- the number that the digits at the front of a text spell, behind a number that was spelled before them
abbrev pub front_number : ℕ → List ℕ → ℕ
front_number before [] = before
front_number before (b ∷ bs) = if is_digit b then front_number (before * 10 + (b - 48)) bs else before
