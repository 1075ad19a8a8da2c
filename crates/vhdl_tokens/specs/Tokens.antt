-- The tokens of VHDL text. (IEEE 1076-1993, clause 13, lexical elements. Which delimiters and literals there are is this
-- project's subset.) At each place outside a token a separator begins, or a token, which is the longest that begins there, or
-- neither, which is a lexical fault.
use Rattle.std.specs.Prelude.{ℕ, ◌+◌, Bool, false, not, ◌&&◌, ◌||◌, ◌==◌, if◌then◌else◌, List, [], ◌∷◌, codes, Option, Some, None}
use Rattle.std.specs.Prelude.{unwrap_or}
use Rattle.std.specs.Char.{is_ascii_alphabetic, is_ascii_digit, is_ascii_graphic}
use Rattle.vhdl_tokens.specs.Words.{is_vhdl_word}
use Rattle.lexer.specs.Tokens as tokens
pub use Rattle.lexer.specs.Tokens.{Token, Lexis, begins_with, is_one_of, is_blank, is_name_byte, later, after, spellings}

-- How many bytes of a separator stand at the front of these: a blank, or a comment before its line end (13.8). None where there
-- is no separator.
abbrev pub separator_length : List ℕ → ℕ
separator_length = tokens.line_separator_length 45

-- a delimiter of one byte that begins no other (13.2)
abbrev pub is_mark : ℕ → Bool
is_mark b = is_one_of (codes "(),;.") b

-- how many bytes of one of the other delimiters stand at the front of these: `:=`, `=>`, `<=`, `/=`, `:` or `=` (13.2)
abbrev pub sign_length : List ℕ → ℕ
sign_length bytes =
    if begins_with bytes (codes ":=") then 2
    else (if begins_with bytes (codes "=>") then 2
    else (if begins_with bytes (codes "<=") then 2
    else (if begins_with bytes (codes "/=") then 2
    else (if begins_with bytes (codes ":") then 1
    else (if begins_with bytes (codes "=") then 1 else 0)))))

-- how many bytes of a number stand at the front of these: at most 15 digits (13.4.1, an integer without `_` and exponent)
abbrev pub number_length : List ℕ → ℕ
number_length = tokens.decimal_length

-- how many bytes of an identifier stand at the front of these, where the first is a letter (13.3.1; `_` may stand at any place
-- behind it)
abbrev pub word_length : List ℕ → ℕ
word_length = tokens.identifier_length

-- How many bytes end a string, up to and with its closing quotation mark. It closes before its line ends.
abbrev pub string_rest : List ℕ → Option ℕ
string_rest [] = None
string_rest (b ∷ bs) = if b == 34 then Some 1 else (if b == 10 then None else later 1 (string_rest bs))

-- how many bytes of a string stand at the front of these, where the first is a quotation mark; none where it does not close
-- (13.6)
abbrev pub string_length : List ℕ → ℕ
string_length [] = 0
string_length (b ∷ bs) = unwrap_or (later 1 (string_rest bs)) 0

-- one printable byte of ASCII
abbrev pub is_printable : ℕ → Bool
is_printable b = is_ascii_graphic b || b == 32

-- how many bytes of a character literal stand at the front of these, where the first is an apostrophe: one printable byte between
-- two of them (13.5)
abbrev pub character_length : List ℕ → ℕ
character_length (b ∷ c ∷ d ∷ bs) = if is_printable c && d == 39 then 3 else 0
character_length (b ∷ c ∷ []) = 0
character_length (b ∷ []) = 0
character_length [] = 0

-- How many bytes of the longest token stand at the front of these. None where no token begins. An apostrophe is a tick, of an
-- attribute's name, exactly where the token before it is a name (6.6), and else it begins a character literal.
abbrev pub token_length : Bool → List ℕ → ℕ
token_length after_name [] = 0
token_length after_name (b ∷ bs) =
    if is_mark b then 1
    else (if b == 39 then (if after_name then 1 else character_length (b ∷ bs))
    else (if b == 34 then string_length (b ∷ bs)
    else (if is_ascii_alphabetic b then word_length (b ∷ bs)
    else (if is_ascii_digit b then number_length (b ∷ bs)
    else sign_length (b ∷ bs)))))

-- The token is a name: it is spelled as an identifier, and is no word of VHDL and none that the text of an entity uses.
abbrev pub is_name : List ℕ → Bool
is_name [] = false
is_name (b ∷ bs) = is_ascii_alphabetic b && not (is_vhdl_word (b ∷ bs))

-- the lexical level of VHDL; the flag says whether the token before is a name
abbrev pub lexis : Lexis
lexis = record { separator_length = separator_length; token_length = token_length; flag_after = λ _ token. is_name token }

abbrev pub at_front : Bool → ℕ → List ℕ → (Bool → ℕ → List Token × Option ℕ) → ℕ → ℕ → List Token × Option ℕ
at_front = tokens.at_front lexis

-- The tokens of bytes that begin at an offset, where so many of them belong to what stands before, and the offset of the lexical
-- fault, if there is one. The flag says whether the token before is a name.
abbrev pub scan : Bool → ℕ → ℕ → List ℕ → List Token × Option ℕ
scan = tokens.scan lexis

-- the tokens of a text before its lexical fault, and the offset of the fault, if there is one
abbrev pub scan_of : List ℕ → List Token × Option ℕ
scan_of = tokens.scan_of lexis
