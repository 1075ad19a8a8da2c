-- What may be added between the tokens of VHDL text without a change of its tokens: blanks, line ends and comments, each comment
-- behind a blank and with its line end. (IEEE 1076-1993, 13.2 and 13.8.)
use Rattle.std.specs.Prelude.{ℕ, Bool, List}
pub use Rattle.lexer.specs.Separators.{spelled}
use Rattle.lexer.specs.Separators as separators
use Rattle.vhdl_tokens.specs.Tokens.{lexis}

-- a comment that may be added, with its line end
abbrev pub IsComment : List ℕ → Type 0
IsComment = separators.IsLineComment 45

-- The second bytes are the first with separations added outside tokens and comments. The flag says whether the token before is a
-- name.
abbrev pub Padded : Bool → List ℕ → List ℕ → Type 0
Padded = separators.Padded lexis (separators.IsSeparation IsComment)

-- both texts have the same tokens, but for their places, and both have a lexical fault or none
abbrev pub HaveSameTokens : List ℕ → List ℕ → Type 0
HaveSameTokens = separators.HaveSameTokens lexis
