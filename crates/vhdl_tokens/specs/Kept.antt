-- What names in VHDL text are made of, and which could be those of other things. This project's rules.
use Rattle.std.specs.Prelude.{ℕ, Bool, false, true, not, ◌&&◌, ◌==◌, List, [], ◌∷◌, codes, drop, map, length, if◌then◌else◌}
use Rattle.std.specs.Char.{is_ascii_alphabetic, is_ascii_alphanumeric, to_ascii_lowercase, eq_ignore_ascii_case}
use Rattle.std.specs.List.{list_all, starts_with}
pub use Rattle.lexer.specs.Numbers.{is_number}
use Rattle.vhdl_tokens.specs.Words.{is_vhdl_word}

-- letters, digits and single `_`, not one at the end, where `under` says whether a `_` stands before
abbrev pub goes_on : Bool → List ℕ → Bool
goes_on under [] = not under
goes_on under (b ∷ bs) = if b == 95 then not under && goes_on true bs else is_ascii_alphanumeric b && goes_on false bs

-- a letter followed by letters, digits and single `_`, not one at the end: a basic identifier of IEEE 1076-1993, 13.3.1
abbrev pub is_identifier : List ℕ → Bool
is_identifier [] = false
is_identifier (first ∷ others) = is_ascii_alphabetic first && goes_on false others

-- a letter followed by letters and digits
abbrev pub is_plain : List ℕ → Bool
is_plain [] = false
is_plain (first ∷ others) = is_ascii_alphabetic first && list_all is_ascii_alphanumeric others

-- the name begins with this word, whatever the case of its letters
abbrev pub begins : List ℕ → List ℕ → Bool
begins word name = starts_with eq_ignore_ascii_case name word

-- this word, followed by a number alone
abbrev pub is_numbered : List ℕ → List ℕ → Bool
is_numbered word name = begins word name && is_number (drop (length word) name)

-- No word, not begun as the names of the VITAL packages, and none of the names that take the place of ports' names.
unfoldable pub is_free : List ℕ → Bool
is_free name = not (is_vhdl_word name) && (not (begins (codes "vital") name) && not (is_numbered (codes "pin") name))

-- A name in lower case.
abbrev pub lowered : List ℕ → List ℕ
lowered name = map to_ascii_lowercase name
