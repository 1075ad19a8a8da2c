-- What holds of the tokens of every list of bytes.
use Rattle.std.specs.Prelude.{◌≡◌, ◌↔◌, ℕ, ◌+◌, ◌<◌, ◌≤◌, List, [], ◌∷◌}
use Rattle.liberty_text.specs.declared.token.TokenKind.TheVariants.{Text}
use Rattle.liberty_text.specs.declared.token.Token.{Token}
use Rattle.liberty_text.specs.declared.token.Stop.{Stop}
use Rattle.liberty_text.specs.Scanner.{scan_of}
use Rattle.liberty_text.specs.Tokens.{Reads}

-- each list of bytes has one reading by the lexical grammar, and it is the one found byte by byte
abbrev pub HaveOneReading : List ℕ → Type 0
HaveOneReading bytes = (ts : List Token) (stop : Stop) → Reads bytes ts stop ↔ (scan_of bytes ≡ (ts, stop))

-- the token has at least one byte, lies in a text of this length, and has both its quotes where it is a Text
pub record IsInside (len : ℕ) (t : Token) : Type 0 where
  pub some : t.at < t.end
  pub within : t.end ≤ len
  pub quotes : t.kind ≡ Text → t.at + 2 ≤ t.end

-- from an offset on each token begins at or behind the end of the one before
abbrev pub AreInOrder : ℕ → List Token → Type 0
AreInOrder from [] = Unit {0}
AreInOrder from (t ∷ ts) = (from ≤ t.at) × AreInOrder t.end ts
