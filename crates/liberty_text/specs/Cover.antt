-- How tokens and separators make up a Liberty text.
use Rattle.std.specs.Prelude.{◌≡◌, ℕ, ◌+◌, ◌<◌, ◌++◌, Bool, true, false, List, [], ◌∷◌, length, ◌==◌, ◌||◌}
use Rattle.std.specs.List.{list_any}
use Rattle.liberty_text.specs.declared.token.TokenKind.{TokenKind}
use Rattle.liberty_text.specs.declared.token.TokenKind.TheVariants.{Word, Text}
use Rattle.liberty_text.specs.declared.token.Token.{Token}
use Rattle.liberty_text.specs.declared.token.Stop.{Stop}
use Rattle.liberty_text.specs.declared.token.Stop.TheVariants.{End, BadByte, OpenText, OpenComment, OpenContinuation}
use Rattle.liberty_text.specs.declared.class.Class.TheVariants.{LineEnd, Blank, Mark}
use Rattle.liberty_text.specs.Scanner.{class_of, scan_of}
use Rattle.liberty_text.specs.Tokens.{AreBlanks, CommentBytes, TextBytes, WordBytes}

-- the bytes are separators, and the flag says whether a line ends among them
pub data Separates : Bool → List ℕ → Type 0 where
  nothing_between : Separates false []
  blank_between : {line : Bool} {b : ℕ} {rest : List ℕ} → class_of b ≡ Blank → Separates line rest → Separates line (b ∷ rest)
  line_end_between : {b : ℕ} {rest : List ℕ} (line : Bool) → class_of b ≡ LineEnd → Separates line rest
      → Separates true (b ∷ rest)
  continuation_between : {line : Bool} {bs : List ℕ} (blanks rest : List ℕ) → AreBlanks blanks → bs ≡ 92 ∷ blanks ++ (10 ∷ rest) →
      Separates line rest → Separates line bs
  comment_between : {bs : List ℕ} (line : Bool) (body rest : List ℕ) → CommentBytes false true body
      → bs ≡ 47 ∷ 42 ∷ body ++ (47 ∷ rest) →
      Separates line rest → Separates (list_any (λ b. b == 10) body || line) bs

-- The first bytes are a token of this kind where the second follow. A Word cannot be extended by them.
abbrev pub Spells : TokenKind → List ℕ → List ℕ → Type 0
Spells Word bs rest = (0 < length bs) × WordBytes bs rest
Spells Text bs rest = (body : List ℕ) × TextBytes false false body × (bs ≡ 34 ∷ body ++ (34 ∷ []))
Spells kind bs rest = (b : ℕ) × (class_of b ≡ Mark kind) × (bs ≡ b ∷ [])

-- the bytes stop a reading at their first, which has this offset, or they are none
abbrev pub StopsHere : ℕ → List ℕ → Stop → Type 0
StopsHere at bs End = bs ≡ []
StopsHere at bs (BadByte stop) = (stop ≡ at) × (0 < length bs)
StopsHere at bs (OpenText stop) = (stop ≡ at) × (0 < length bs)
StopsHere at bs (OpenComment stop) = (stop ≡ at) × (0 < length bs)
StopsHere at bs (OpenContinuation stop) = (stop ≡ at) × (0 < length bs)

-- behind the last token separators stand, and then what stops the reading
pub record CoversLast (from : ℕ) (bs : List ℕ) (stop : Stop) : Type 0 where
  pub line : Bool
  pub gap : List ℕ
  pub rest : List ℕ
  pub between : Separates line gap
  pub split : bs ≡ gap ++ rest
  pub stops : StopsHere (from + length gap) rest stop

-- before a token separators stand, and its flag says whether a line ends among them
pub record CoversFirst (from : ℕ) (bs : List ℕ) (t : Token) (rest : List ℕ) : Type 0 where
  pub gap : List ℕ
  pub spelled : List ℕ
  pub between : Separates t.line_before gap
  pub spells : Spells t.kind spelled rest
  pub split : bs ≡ gap ++ (spelled ++ rest)
  pub at_is : t.at ≡ from + length gap
  pub end_is : t.end ≡ from + length gap + length spelled

-- from an offset on these bytes are these tokens, with nothing but separators between them
abbrev pub Covers : ℕ → List ℕ → List Token → Stop → Type 0
Covers from bs [] stop = CoversLast from bs stop
Covers from bs (t ∷ ts) stop = (rest : List ℕ) × CoversFirst from bs t rest × Covers t.end rest ts stop

-- the tokens found in a list of bytes, with the separators between them, are the bytes before the stop
abbrev pub IsCovered : List ℕ → Type 0
IsCovered bytes = Covers 0 bytes (scan_of bytes).0 (scan_of bytes).1
