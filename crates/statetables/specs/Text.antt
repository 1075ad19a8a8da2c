use Rattle.std.specs.Prelude.{ℕ, Bool, ◌&&◌, ◌||◌, ◌==◌, not, List, [], ◌∷◌, length, filter, if◌then◌else◌}
use Rattle.std.specs.List.{slice_split, list_all}

-- Blanks are space and tab. (This project's rule.)
abbrev pub is_blank : ℕ → Bool
is_blank byte = byte == 32 || byte == 9

-- What stands ahead of a comma that nothing but blanks follow, or the whole text where there is no such comma.
-- (This project's rule: a comma at the end is accepted.)
abbrev pub without_end_comma : List ℕ → List ℕ
without_end_comma [] = []
without_end_comma (byte ∷ more) = if byte == 44 && list_all is_blank more then [] else byte ∷ without_end_comma more

-- The rows of a table text: what stands between commas. A text without symbols, colons and commas is one empty row.
-- (Liberty Reference Manual, "table" attribute.)
abbrev pub rows_of : List ℕ → List (List ℕ)
rows_of text = slice_split (λ byte. byte == 44) (without_end_comma text)

-- The parts of a row: what stands between colons. (Liberty Reference Manual, "table" attribute.)
abbrev pub parts_of : List ℕ → List (List ℕ)
parts_of row = slice_split (λ byte. byte == 58) row

-- The words of a part: what stands between blanks and is not empty. (Liberty Reference Manual, "table" attribute.)
abbrev pub words_of : List ℕ → List (List ℕ)
words_of part = filter (λ word. not (length word == 0)) (slice_split is_blank part)
