-- How separators and tokens make up a VHDL text. (IEEE 1076-1993, clause 13; which tokens there are is this project's subset.)
use Rattle.std.specs.Prelude.{◌≡◌, ℕ, nat_le, Bool, true, false, not, ◌&&◌, ◌||◌, ◌==◌, if◌then◌else◌, List, [], ◌∷◌, length}
use Rattle.std.specs.Prelude.{codes}
use Rattle.std.specs.Char.{is_ascii_alphabetic, is_ascii_digit}
use Rattle.std.specs.List.{list_all}
use Rattle.std.specs.Str.{bytes_eq}
use Rattle.lexer.specs.Cover.{EndsLine, is_nothing, Spelling}
use Rattle.vhdl_tokens.specs.Separators.{IsComment}
use Rattle.vhdl_tokens.specs.Tokens.{lexis, is_blank, is_mark, is_name_byte, is_printable}

-- The first bytes are one separator, where the second follow: a blank, or a comment.
pub data IsSeparator : List ℕ → List ℕ → Type 0 where
  blank : {rest : List ℕ} (b : ℕ) → is_blank b ≡ true → IsSeparator (b ∷ []) rest
  comment : {rest : List ℕ} (body : List ℕ) → list_all (λ c. not (c == 10)) body ≡ true → EndsLine rest
      → IsSeparator (45 ∷ 45 ∷ body) rest

-- digits alone, at most 15
abbrev pub spells_number : List ℕ → Bool
spells_number bytes = list_all is_ascii_digit bytes && nat_le (length bytes) 15

-- one of the other delimiters
abbrev pub spells_sign : List ℕ → Bool
spells_sign bytes =
    bytes_eq bytes (codes ":=") || (bytes_eq bytes (codes "=>") || (bytes_eq bytes (codes "<=") || (bytes_eq bytes (codes "/=") ||
    (bytes_eq bytes (codes ":") || bytes_eq bytes (codes "=")))))

-- a string behind its first quotation mark: there is one more, at its end, and no line end
abbrev pub closes_string : List ℕ → Bool
closes_string [] = false
closes_string (b ∷ bs) = if b == 34 then is_nothing bs else not (b == 10) && closes_string bs

-- a character literal behind its first apostrophe
abbrev pub closes_character : List ℕ → Bool
closes_character [] = false
closes_character (c ∷ []) = false
closes_character (c ∷ d ∷ bs) = is_printable c && (d == 39 && is_nothing bs)

-- All these bytes are one token. The flag says whether the token before is a name.
abbrev pub spells_token : Bool → List ℕ → Bool
spells_token after_name [] = false
spells_token after_name (b ∷ bs) =
    if is_mark b then is_nothing bs
    else (if b == 39 then (if after_name then is_nothing bs else closes_character bs)
    else (if b == 34 then closes_string bs
    else (if is_ascii_alphabetic b then list_all is_name_byte bs
    else (if is_ascii_digit b then spells_number (b ∷ bs)
    else spells_sign (b ∷ bs)))))

-- which bytes are separators and tokens of VHDL
abbrev pub spelling : Spelling
spelling = record { lexis = lexis; IsSeparator = IsSeparator; spells_token = spells_token; IsComment = IsComment }
