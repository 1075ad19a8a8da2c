-- Where the tokens of a text stand.
use Rattle.std.specs.Prelude.{ℕ, ◌+◌, ◌<◌, ◌≤◌, ◌==◌, if◌then◌else◌, List, [], ◌∷◌, length, Option, Some, None}
use Rattle.lexer.specs.Tokens.{Token, Lexis, scan_of}

-- From an offset on each token begins at or behind the end of the one before, and the lexical fault, if there is one, behind all
-- of them. Each token has at least one byte, and all lie inside a text of so many bytes.
abbrev pub AreInOrder : ℕ → ℕ → List Token → Option ℕ → Type 0
AreInOrder from len [] None = Unit {0}
AreInOrder from len [] (Some at) = (from ≤ at) × (at < len)
AreInOrder from len (t ∷ tokens) fault =
    (from ≤ t.at) × (0 < length t.bytes) × (t.at + length t.bytes ≤ len) × AreInOrder (t.at + length t.bytes) len tokens fault

-- the tokens of a text and its lexical fault stand in it one behind the other
abbrev pub StandInOrder : Lexis → List ℕ → Type 0
StandInOrder l text = AreInOrder 0 (length text) (scan_of l text).0 (scan_of l text).1

-- the offset of the token with which so many tokens are left, and the length of the text where none is left
abbrev pub place_from : ℕ → List Token → ℕ → ℕ
place_from len [] left = len
place_from len (t ∷ ts) left = if length (t ∷ ts) == left then t.at else place_from len ts left
