-- Tokens of a text, in any language: what the language says of the front of bytes, and what its tokens are then. At each place
-- outside a token a separator begins, or a token, or neither, which is a lexical fault.
use Rattle.std.specs.Prelude.{ℕ, zero, suc, ◌+◌, Bool, false, not, ◌||◌, ◌==◌, nat_eq, nat_le, if◌then◌else◌, List, [], ◌∷◌}
use Rattle.std.specs.Prelude.{codes, map, take, Option, Some, None}
use Rattle.std.specs.Char.{is_ascii_alphanumeric, is_ascii_digit}
use Rattle.std.specs.List.{list_any, prefix_len, starts_with}

-- A token: the offset where it begins, and the bytes that spell it. There is at least one.
pub record Token : Type 0 where
  pub at : ℕ
  pub bytes : List ℕ

-- What a language says of the bytes at a place outside a token: how many belong to a separator that begins there, and how many to
-- the longest token; none where there is none. A flag that each token sets, as it was before and as the token is spelled, says
-- what a token may be.
pub record Lexis : Type 0 where
  pub separator_length : List ℕ → ℕ
  pub token_length : Bool → List ℕ → ℕ
  pub flag_after : Bool → List ℕ → Bool

-- the bytes begin with these
abbrev pub begins_with : List ℕ → List ℕ → Bool
begins_with bytes front = starts_with nat_eq bytes front

-- the byte is one of these
abbrev pub is_one_of : List ℕ → ℕ → Bool
is_one_of bytes b = list_any (λ c. nat_eq c b) bytes

-- a space, a tab or a line end
abbrev pub is_blank : ℕ → Bool
is_blank b = is_one_of (codes " \t\n") b

-- a letter, a digit or `_`
abbrev pub is_name_byte : ℕ → Bool
is_name_byte b = is_ascii_alphanumeric b || b == 95

-- how many bytes of a decimal number stand at the front of these: at most 15 digits
abbrev pub decimal_length : List ℕ → ℕ
decimal_length bytes = if nat_le (prefix_len is_ascii_digit bytes) 15 then prefix_len is_ascii_digit bytes else 0

-- how many letters, digits and `_` stand at the front of these, whatever the first byte is
abbrev pub identifier_length : List ℕ → ℕ
identifier_length [] = 0
identifier_length (_ ∷ bs) = 1 + prefix_len is_name_byte bs

-- How many bytes of a blank, or of a comment of one line before its line end, stand at the front of these. Such a comment begins
-- with the mark given twice.
abbrev pub line_separator_length : ℕ → List ℕ → ℕ
line_separator_length mark [] = 0
line_separator_length mark (b ∷ bs) =
    if is_blank b then 1
    else (if begins_with (b ∷ bs) (mark ∷ mark ∷ []) then prefix_len (λ c. not (c == 10)) (b ∷ bs)
    else 0)

-- so many bytes more
abbrev pub later : ℕ → Option ℕ → Option ℕ
later n None = None
later n (Some m) = Some (n + m)

-- a token before these
abbrev pub after : Token → List Token × Option ℕ → List Token × Option ℕ
after t (ts, fault) = (t ∷ ts, fault)

-- What bytes are that begin at an offset outside a token, by what they are behind the separator or the token that begins there.
abbrev pub at_front : Lexis → Bool → ℕ → List ℕ → (Bool → ℕ → List Token × Option ℕ) → ℕ → ℕ → List Token × Option ℕ
at_front l flag at bytes rest zero zero = ([], Some at)
at_front l flag at bytes rest zero (suc n) =
    after (record { at = at; bytes = take (suc n) bytes }) (rest (l.flag_after flag (take (suc n) bytes)) n)
at_front l flag at bytes rest (suc n) _ = rest flag n

-- The tokens of bytes that begin at an offset, where so many of them belong to what stands before, and the offset of the lexical
-- fault, if there is one.
abbrev pub scan : Lexis → Bool → ℕ → ℕ → List ℕ → List Token × Option ℕ
scan l flag at n [] = ([], None)
scan l flag at (suc n) (b ∷ bs) = scan l flag (at + 1) n bs
scan l flag at zero (b ∷ bs) =
    at_front l flag at (b ∷ bs) (λ set n. scan l set (at + 1) n bs) (l.separator_length (b ∷ bs)) (l.token_length flag (b ∷ bs))

-- the tokens of a text before its lexical fault, and the offset of the fault, if there is one
abbrev pub scan_of : Lexis → List ℕ → List Token × Option ℕ
scan_of l bytes = scan l false 0 0 bytes

-- the bytes of each token
abbrev pub spellings : List Token → List (List ℕ)
spellings tokens = map (λ (t : Token). t.bytes) tokens
