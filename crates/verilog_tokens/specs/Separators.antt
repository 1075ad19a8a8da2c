-- What may be added between the tokens of Verilog text without a change of its tokens: blanks, line ends and comments, each
-- comment behind a blank, and a comment of one line with its line end. (IEEE 1364-2005, 3.2 and 3.3.)
use Rattle.std.specs.Prelude.{◌≡◌, ◌⊎◌, ℕ, Bool, false, List, [], ◌∷◌, ◌++◌, None}
pub use Rattle.lexer.specs.Separators.{spelled}
use Rattle.lexer.specs.Separators as separators
use Rattle.verilog_tokens.specs.Tokens.{comment_rest, lexis}

-- a comment that may be added, with what closes it: of one line, or up to the first slash right behind a star
abbrev pub IsComment : List ℕ → Type 0
IsComment c = separators.IsLineComment 47 c
    ⊎ ((body : List ℕ) × (comment_rest false body ≡ None) × (c ≡ 47 ∷ 42 ∷ body ++ (42 ∷ 47 ∷ [])))

-- The second bytes are the first with separations added outside tokens and comments. The flag says whether a table is open.
abbrev pub Padded : Bool → List ℕ → List ℕ → Type 0
Padded = separators.Padded lexis (separators.IsSeparation IsComment)

-- both texts have the same tokens, but for their places, and both have a lexical fault or none
abbrev pub HaveSameTokens : List ℕ → List ℕ → Type 0
HaveSameTokens = separators.HaveSameTokens lexis
