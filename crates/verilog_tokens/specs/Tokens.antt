-- The tokens of Verilog text. (IEEE 1364-2005, clause 3, lexical conventions, and 8.1.4, the symbols of a primitive's table.
-- Which signs, numbers and symbols there are is this project's subset.) At each place outside a token a separator begins, or a
-- token, which is the longest that begins there, or neither, which is a lexical fault.
use Rattle.std.specs.Prelude.{ℕ, ◌+◌, Bool, true, false, not, ◌&&◌, ◌||◌, ◌==◌, if◌then◌else◌, List, [], ◌∷◌, codes, Option, Some}
use Rattle.std.specs.Prelude.{None, unwrap_or}
use Rattle.std.specs.Char.{is_ascii_alphabetic, is_ascii_digit}
use Rattle.std.specs.List.{prefix_len}
use Rattle.std.specs.Str.{bytes_eq}
use Rattle.lexer.specs.Tokens as tokens
pub use Rattle.lexer.specs.Tokens.{Token, Lexis, begins_with, is_one_of, is_blank, is_name_byte, later, after, spellings}
use Rattle.verilog_tokens.specs.Words.{is_verilog_word}

-- How many bytes end a comment, up to and with the first slash right behind a star. The flag says whether the byte before these
-- is a star of the comment.
abbrev pub comment_rest : Bool → List ℕ → Option ℕ
comment_rest star [] = None
comment_rest star (b ∷ bs) = if star && b == 47 then Some 1 else later 1 (comment_rest (b == 42) bs)

-- How many bytes of a comment stand at the front of these; none where it does not close (3.3).
abbrev pub block_length : List ℕ → ℕ
block_length [] = 0
block_length (_ ∷ []) = 0
block_length (_ ∷ _ ∷ bs) = unwrap_or (later 2 (comment_rest false bs)) 0

-- How many bytes of a separator stand at the front of these: a blank, a comment of one line before its line end, or a comment
-- that closes. None where there is no separator.
abbrev pub separator_length : List ℕ → ℕ
separator_length [] = 0
separator_length (b ∷ bs) =
    if is_blank b then 1
    else (if begins_with (b ∷ bs) (codes "//") then prefix_len (λ c. not (c == 10)) (b ∷ bs)
    else (if begins_with (b ∷ bs) (codes "/*") then block_length (b ∷ bs)
    else 0))

-- a mark of one byte
abbrev pub is_mark : ℕ → Bool
is_mark b = is_one_of (codes "(),;:") b

-- a symbol of a table (8.1.4), where each byte is a token of its own
abbrev pub is_symbol : ℕ → Bool
is_symbol b = is_one_of (codes "01xXbB?rRfFpPnN*-():;") b

-- how many bytes of a sign stand at the front of these: `&&&`, `=>`, `=`, or a slash that begins no comment
abbrev pub sign_length : List ℕ → ℕ
sign_length bytes =
    if begins_with bytes (codes "&&&") then 3
    else (if begins_with bytes (codes "=>") then 2
    else (if begins_with bytes (codes "=") then 1
    else (if begins_with bytes (codes "//") || begins_with bytes (codes "/*") then 0
    else (if begins_with bytes (codes "/") then 1 else 0))))

-- how many bytes of a number stand at the front of these: the time of a unit, a bit, or else at most 15 digits (3.5)
abbrev pub number_length : List ℕ → ℕ
number_length bytes =
    if begins_with bytes (codes "1ps") then 3
    else (if begins_with bytes (codes "1'b0") || begins_with bytes (codes "1'b1") then 4
    else tokens.decimal_length bytes)

-- how many bytes of an identifier (3.7, without `$`), or of the name of a system task (3.7.3) or of a directive (19), stand at
-- the front of these, where the first byte begins one
abbrev pub word_length : List ℕ → ℕ
word_length [] = 0
word_length (b ∷ bs) =
    if is_one_of (codes "$`") b then 1 + prefix_len is_ascii_alphabetic bs else 1 + prefix_len is_name_byte bs

-- whether the byte begins a word
abbrev pub begins_word : ℕ → Bool
begins_word b = is_ascii_alphabetic b || is_one_of (codes "_$`") b

-- How many bytes of the longest token stand at the front of these, in a table or outside. None where no token begins.
abbrev pub token_length : Bool → List ℕ → ℕ
token_length in_table [] = 0
token_length in_table (b ∷ bs) =
    if in_table && is_symbol b then 1
    else (if is_mark b then 1
    else (if begins_word b then word_length (b ∷ bs)
    else (if is_ascii_digit b then number_length (b ∷ bs)
    else sign_length (b ∷ bs))))

-- whether a table is open after a token
abbrev pub is_open_after : Bool → List ℕ → Bool
is_open_after in_table token =
    if bytes_eq token (codes "table") then true else (if bytes_eq token (codes "endtable") then false else in_table)

-- the lexical level of Verilog; the flag says whether a table is open
abbrev pub lexis : Lexis
lexis = record { separator_length = separator_length; token_length = token_length; flag_after = is_open_after }

abbrev pub at_front : Bool → ℕ → List ℕ → (Bool → ℕ → List Token × Option ℕ) → ℕ → ℕ → List Token × Option ℕ
at_front = tokens.at_front lexis

-- The tokens of bytes that begin at an offset, where so many of them belong to what stands before, and the offset of the lexical
-- fault, if there is one. The flag says whether a table is open.
abbrev pub scan : Bool → ℕ → ℕ → List ℕ → List Token × Option ℕ
scan = tokens.scan lexis

-- the tokens of a text before its lexical fault, and the offset of the fault, if there is one
abbrev pub scan_of : List ℕ → List Token × Option ℕ
scan_of = tokens.scan_of lexis

-- The token is a name: it is spelled as an identifier, and is no word of Verilog. (In a table no place wants one.)
abbrev pub is_name : List ℕ → Bool
is_name [] = false
is_name (b ∷ bs) = (is_ascii_alphabetic b || b == 95) && not (is_verilog_word (b ∷ bs))
