-- How separators and tokens make up a text, in a language that says which bytes are one separator, and which are one token.
use Rattle.std.specs.Prelude.{◌≡◌, ℕ, ◌+◌, ◌<◌, Bool, true, false, List, [], ◌∷◌, ◌++◌, length, Option, Some, None}
use Rattle.lexer.specs.Tokens.{Token, Lexis, scan_of}

-- a line ends here, or the text does
abbrev pub EndsLine : List ℕ → Type 0
EndsLine [] = Unit {0}
EndsLine (b ∷ rest) = b ≡ 10

-- the bytes are empty
abbrev pub is_nothing : List ℕ → Bool
is_nothing [] = true
is_nothing (_ ∷ _) = false

-- What a language calls one separator, where the second bytes follow, one token, by the flag that tokens set, and one comment
-- that may be added behind a blank, with all that closes it.
pub record Spelling : Type 1 where
  pub lexis : Lexis
  pub IsSeparator : List ℕ → List ℕ → Type 0
  pub spells_token : Bool → List ℕ → Bool
  pub IsComment : List ℕ → Type 0

-- the first bytes are separators one behind the other, where the second follow
pub data Separates (l : Spelling) : List ℕ → List ℕ → Type 0 where
  nothing_between : {rest : List ℕ} → Separates l [] rest
  one_between : {gap rest : List ℕ} (s more : List ℕ) → l.IsSeparator s (more ++ rest) → Separates l more rest → gap ≡ s ++ more
      → Separates l gap rest

-- behind the last token separators stand, and then the lexical fault, or the end of the text
abbrev pub EndsWith : ℕ → List ℕ → Option ℕ → Type 0
EndsWith at rest None = rest ≡ []
EndsWith at rest (Some fault) = (fault ≡ at) × (0 < length rest)

pub record CoversLast (l : Spelling) (from : ℕ) (bytes : List ℕ) (fault : Option ℕ) : Type 0 where
  pub gap : List ℕ
  pub rest : List ℕ
  pub split : bytes ≡ gap ++ rest
  pub between : Separates l gap rest
  pub ends : EndsWith (from + length gap) rest fault

-- Before a token separators stand. No bytes that go on from it are a longer token.
pub record CoversFirst (l : Spelling) (flag : Bool) (from : ℕ) (bytes : List ℕ) (t : Token) (rest : List ℕ) : Type 0 where
  pub gap : List ℕ
  pub split : bytes ≡ gap ++ (t.bytes ++ rest)
  pub between : Separates l gap (t.bytes ++ rest)
  pub place : t.at ≡ from + length gap
  pub token : l.spells_token flag t.bytes ≡ true
  pub longest : (more others : List ℕ) → rest ≡ more ++ others → 0 < length more → l.spells_token flag (t.bytes ++ more) ≡ true
      → ⊥

-- From an offset on these bytes are these tokens, with nothing but separators between them.
abbrev pub Covers : Spelling → Bool → ℕ → List ℕ → List Token → Option ℕ → Type 0
Covers l flag from bytes [] fault = CoversLast l from bytes fault
Covers l flag from bytes (t ∷ ts) fault =
    (rest : List ℕ) × CoversFirst l flag from bytes t rest
    × Covers l (l.lexis.flag_after flag t.bytes) (t.at + length t.bytes) rest ts fault

-- the tokens of a text, with only separators between them, are its bytes up to its lexical fault
abbrev pub IsCovered : Spelling → List ℕ → Type 0
IsCovered l text = Covers l false 0 text (scan_of l.lexis text).0 (scan_of l.lexis text).1
