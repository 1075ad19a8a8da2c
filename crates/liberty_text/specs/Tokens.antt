-- What the tokens of a Liberty text are: its lexical grammar (Liberty Reference Manual, general syntax).
-- Each token is the longest that can begin where it begins.
use Rattle.std.specs.Prelude.{◌≡◌, ◌⊎◌, ℕ, ◌+◌, ◌++◌, Bool, true, false, not, List, [], ◌∷◌, length, ◌==◌, ◌&&◌, ◌||◌}
use Rattle.std.specs.List.{list_any}
use Rattle.liberty_text.specs.declared.token.TokenKind.{TokenKind}
use Rattle.liberty_text.specs.declared.token.TokenKind.TheVariants.{Word, Text}
use Rattle.liberty_text.specs.declared.token.Token.{Token}
use Rattle.liberty_text.specs.declared.token.Stop.{Stop}
use Rattle.liberty_text.specs.declared.token.Stop.TheVariants.{End, BadByte, OpenText, OpenComment, OpenContinuation}
use Rattle.liberty_text.specs.declared.token.TextFault.{TextFault}
use Rattle.liberty_text.specs.declared.token.TextFault.TheVariants as fault
use Rattle.liberty_text.specs.declared.class.Class.{Class}
use Rattle.liberty_text.specs.declared.class.Class.TheVariants.{LineEnd, Blank, Mark, WordByte, Bad}
use Rattle.liberty_text.specs.Scanner.{class_of, token}

-- the byte may stand in a Word
abbrev pub is_word_class : Class → Bool
is_word_class WordByte = true
is_word_class _ = false

-- these bytes begin with the two that open a comment
abbrev pub opens_comment : List ℕ → Bool
opens_comment [] = false
opens_comment (a ∷ []) = false
opens_comment (a ∷ b ∷ bs) = a == 47 && b == 42

-- no Word goes on with these bytes: they are none, begin with a byte of no Word, or open a comment
abbrev pub ends_word : List ℕ → Bool
ends_word [] = true
ends_word (b ∷ bs) = not (is_word_class (class_of b)) || opens_comment (b ∷ bs)

-- the first bytes are those with which a Word goes on, as far as it goes on before the second
pub data WordBytes : List ℕ → List ℕ → Type 0 where
  word_ends : {rest : List ℕ} → ends_word rest ≡ true → WordBytes [] rest
  word_byte : {b : ℕ} {w rest : List ℕ} → ends_word (b ∷ w ++ rest) ≡ false → WordBytes w rest → WordBytes (b ∷ w) rest

-- The bytes may stand in a text, where each double quote stands right behind a backslash.
-- The two flags say whether the byte before the first, and the last byte, is a backslash.
pub data TextBytes : Bool → Bool → List ℕ → Type 0 where
  text_ends : {escaped : Bool} → TextBytes escaped escaped []
  text_byte : {escaped last : Bool} {b : ℕ} {bs : List ℕ} → (b == 34 && not escaped) ≡ false → TextBytes (b == 92) last bs
      → TextBytes escaped last (b ∷ bs)

-- The bytes may stand in a comment, where no slash stands right behind a star.
-- The two flags say whether the byte before the first, and the last byte, is a star of the comment.
pub data CommentBytes : Bool → Bool → List ℕ → Type 0 where
  comment_ends : {star : Bool} → CommentBytes star star []
  comment_byte : {star last : Bool} {b : ℕ} {bs : List ℕ} → (b == 47 && star) ≡ false → CommentBytes (b == 42) last bs
      → CommentBytes star last (b ∷ bs)

-- each byte is a space, a tab or a carriage return
abbrev pub AreBlanks : List ℕ → Type 0
AreBlanks [] = Unit {0}
AreBlanks (b ∷ bs) = (class_of b ≡ Blank) × AreBlanks bs

-- a byte that is no blank and no line end
abbrev pub IsNoBlank : Class → Type 0
IsNoBlank LineEnd = ⊥
IsNoBlank Blank = ⊥
IsNoBlank _ = Unit {0}

-- From an offset on these bytes are these tokens with separators between them, up to this stop.
-- The flag says whether a line ends between the token before the offset and the offset.
pub data Lexes : ℕ → Bool → List ℕ → List Token → Stop → Type 0 where
  end : {at : ℕ} {line : Bool} → Lexes at line [] [] End
  blank : {at : ℕ} {line : Bool} {b : ℕ} {rest : List ℕ} {ts : List Token} {stop : Stop} →
      class_of b ≡ Blank → Lexes (at + 1) line rest ts stop → Lexes at line (b ∷ rest) ts stop
  line_end : {at : ℕ} {line : Bool} {b : ℕ} {rest : List ℕ} {ts : List Token} {stop : Stop} →
      class_of b ≡ LineEnd → Lexes (at + 1) true rest ts stop → Lexes at line (b ∷ rest) ts stop
  -- a backslash, blanks and a line end: no line end
  continuation : {at : ℕ} {line : Bool} {bs : List ℕ} {ts : List Token} {stop : Stop} (blanks rest : List ℕ) →
      AreBlanks blanks → bs ≡ 92 ∷ blanks ++ (10 ∷ rest) →
      Lexes (at + 1 + length blanks + 1) line rest ts stop → Lexes at line bs ts stop
  -- a comment up to the first star and slash: a line end where it holds one
  comment : {at : ℕ} {line : Bool} {bs : List ℕ} {ts : List Token} {stop : Stop} (body rest : List ℕ) →
      CommentBytes false true body → bs ≡ 47 ∷ 42 ∷ body ++ (47 ∷ rest) →
      Lexes (at + 2 + length body + 1) (line || list_any (λ b. b == 10) body) rest ts stop → Lexes at line bs ts stop
  mark : {at : ℕ} {line : Bool} {b : ℕ} {rest : List ℕ} {ts : List Token} {stop : Stop} (kind : TokenKind) →
      class_of b ≡ Mark kind → Lexes (at + 1) false rest ts stop →
      Lexes at line (b ∷ rest) (token kind at (at + 1) line ∷ ts) stop
  text : {at : ℕ} {line : Bool} {bs : List ℕ} {ts : List Token} {stop : Stop} (body rest : List ℕ) →
      TextBytes false false body → bs ≡ 34 ∷ body ++ (34 ∷ rest) →
      Lexes (at + 1 + length body + 1) false rest ts stop →
      Lexes at line bs (token Text at (at + 1 + length body + 1) line ∷ ts) stop
  word : {at : ℕ} {line : Bool} {bs : List ℕ} {ts : List Token} {stop : Stop} (b : ℕ) (w rest : List ℕ) →
      WordBytes (b ∷ w) rest → bs ≡ b ∷ w ++ rest →
      Lexes (at + 1 + length w) false rest ts stop →
      Lexes at line bs (token Word at (at + 1 + length w) line ∷ ts) stop
  bad : {at : ℕ} {line : Bool} {b : ℕ} {rest : List ℕ} →
      class_of b ≡ Bad → Lexes at line (b ∷ rest) [] (BadByte at)
  -- a backslash, blanks and a byte that is no line end
  bad_backslash : {at : ℕ} {line : Bool} {bs : List ℕ} (blanks : List ℕ) (b : ℕ) (rest : List ℕ) →
      AreBlanks blanks → IsNoBlank (class_of b) → bs ≡ 92 ∷ blanks ++ (b ∷ rest) → Lexes at line bs [] (BadByte at)
  open_text : {at : ℕ} {line : Bool} {body : List ℕ} (last : Bool) →
      TextBytes false last body → Lexes at line (34 ∷ body) [] (OpenText at)
  open_comment : {at : ℕ} {line : Bool} {body : List ℕ} (last : Bool) →
      CommentBytes false last body → Lexes at line (47 ∷ 42 ∷ body) [] (OpenComment at)
  open_continuation : {at : ℕ} {line : Bool} {blanks : List ℕ} →
      AreBlanks blanks → Lexes at line (92 ∷ blanks) [] (OpenContinuation at)

-- reading a whole list of bytes gives these tokens and stops so
abbrev pub Reads : List ℕ → List Token → Stop → Type 0
Reads bytes ts stop = Lexes 0 false bytes ts stop

-- reading the bytes stops so, after some tokens
abbrev pub StopsAt : List ℕ → Stop → Type 0
StopsAt bytes stop = (ts : List Token) × Reads bytes ts stop

-- a list of bytes is a text without a fault, and these are its tokens
abbrev pub AreTokensOf : List Token → List ℕ → Type 0
AreTokensOf ts bytes = Reads bytes ts End

-- the fault is the first of the text. A backslash with nothing but blanks after it is a bad byte.
abbrev pub IsFaultOf : TextFault → List ℕ → Type 0
IsFaultOf (fault.BadByte at) bytes = StopsAt bytes (BadByte at) ⊎ StopsAt bytes (OpenContinuation at)
IsFaultOf (fault.OpenText at) bytes = StopsAt bytes (OpenText at)
IsFaultOf (fault.OpenComment at) bytes = StopsAt bytes (OpenComment at)
IsFaultOf fault.Memory bytes = Unit {0}
