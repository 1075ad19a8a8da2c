-- How separators and tokens make up a Verilog text. (IEEE 1364-2005, clause 3; which tokens there are is this project's subset.)
use Rattle.std.specs.Prelude.{◌≡◌, ℕ, nat_le, Bool, true, false, not, ◌&&◌, ◌||◌, ◌==◌, if◌then◌else◌, List, [], ◌∷◌, length}
use Rattle.std.specs.Prelude.{Some, codes}
use Rattle.std.specs.Char.{is_ascii_alphabetic, is_ascii_digit}
use Rattle.std.specs.List.{list_all}
use Rattle.std.specs.Str.{bytes_eq}
use Rattle.lexer.specs.Cover.{EndsLine, is_nothing, Spelling}
use Rattle.verilog_tokens.specs.Separators.{IsComment}
use Rattle.verilog_tokens.specs.Tokens.{lexis, is_blank, is_name_byte, is_one_of, comment_rest, is_mark, is_symbol, begins_word}

-- The first bytes are one separator, where the second follow: a blank; a comment of one line; or a comment that ends with the
-- first slash right behind a star.
pub data IsSeparator : List ℕ → List ℕ → Type 0 where
  blank : {rest : List ℕ} (b : ℕ) → is_blank b ≡ true → IsSeparator (b ∷ []) rest
  line_comment : {rest : List ℕ} (body : List ℕ) → list_all (λ c. not (c == 10)) body ≡ true → EndsLine rest
      → IsSeparator (47 ∷ 47 ∷ body) rest
  block_comment : {rest : List ℕ} (body : List ℕ) → comment_rest false body ≡ Some (length body)
      → IsSeparator (47 ∷ 42 ∷ body) rest

-- digits alone, at most 15; the time of a unit; or a bit
abbrev pub spells_number : List ℕ → Bool
spells_number bytes =
    bytes_eq bytes (codes "1ps") || (bytes_eq bytes (codes "1'b0")
    || (bytes_eq bytes (codes "1'b1") || (list_all is_ascii_digit bytes && nat_le (length bytes) 15)))

-- an identifier, or the name of a system task or of a directive, behind its first byte
abbrev pub spells_word : ℕ → List ℕ → Bool
spells_word b bytes = if is_one_of (codes "$`") b then list_all is_ascii_alphabetic bytes else list_all is_name_byte bytes

-- a sign
abbrev pub spells_sign : List ℕ → Bool
spells_sign bytes = bytes_eq bytes (codes "&&&")
    || (bytes_eq bytes (codes "=>") || (bytes_eq bytes (codes "=") || bytes_eq bytes (codes "/")))

-- All these bytes are one token, in a table or outside: there a symbol is a token of its own.
abbrev pub spells_token : Bool → List ℕ → Bool
spells_token in_table [] = false
spells_token in_table (b ∷ bs) =
    if in_table && is_symbol b then is_nothing bs
    else (if is_mark b then is_nothing bs
    else (if begins_word b then spells_word b bs
    else (if is_ascii_digit b then spells_number (b ∷ bs)
    else spells_sign (b ∷ bs))))

-- which bytes are separators and tokens of Verilog
abbrev pub spelling : Spelling
spelling = record { lexis = lexis; IsSeparator = IsSeparator; spells_token = spells_token; IsComment = IsComment }
