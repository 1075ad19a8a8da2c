-- The lines of a stimulus and their words (this project's format).
use Rattle.std.specs.Prelude.{ℕ, ◌-◌, Bool, ◌||◌, ◌==◌, true, false, List, [], ◌∷◌, length, take, filter, slice_index}
use Rattle.std.specs.Prelude.{if◌then◌else◌}
use Rattle.std.specs.List.{slice_split}

-- words are separated by spaces and tabs
abbrev pub is_blank : ℕ → Bool
is_blank byte = byte == 32 || byte == 9

abbrev pub is_line_feed : ℕ → Bool
is_line_feed byte = byte == 10

-- whether a carriage return stands at the end
abbrev pub ends_in_return : List ℕ → Bool
ends_in_return line = slice_index line (length line - 1) == 13

-- the line without the carriage return at its end
abbrev pub without_return : List ℕ → List ℕ
without_return line = if ends_in_return line then take (length line - 1) line else line

-- A carriage return ahead of a line feed belongs to the line's end. What follows the last line feed has no line feed at
-- its end, so it stays as it is.
abbrev pub ended : List (List ℕ) → List (List ℕ)
ended [] = []
ended (last ∷ []) = last ∷ []
ended (line ∷ next ∷ more) = without_return line ∷ ended (next ∷ more)

-- The lines of a text. Each but the last ends with a line feed; the last one may have no bytes.
abbrev pub lines_of : List ℕ → List (List ℕ)
lines_of text = ended (slice_split is_line_feed text)

-- whether what stands between two blanks is a word: it is not empty
abbrev pub is_word : List ℕ → Bool
is_word [] = false
is_word (byte ∷ more) = true

-- the words of a line
abbrev pub words_of : List ℕ → List (List ℕ)
words_of line = filter is_word (slice_split is_blank line)
