-- How parts of a text are marked in a language: by the words that begin them, and by those that end them.
use Rattle.std.specs.Prelude.{ℕ, ◌+◌, Bool, true, false, ◌&&◌, ◌||◌, if◌then◌else◌, List, [], ◌∷◌, length}
use Rattle.lexer.specs.Tokens.{Token, Lexis}

-- which bytes are tokens of a language, and which token stands for a word
pub record Vocabulary : Type 0 where
  pub lexis : Lexis
  pub is_same : List ℕ → List ℕ → Bool

-- A part ends behind the next closing token from the words on that end it.
pub record Ending : Type 0 where
  pub words : List (List ℕ)
  pub closing : List ℕ

-- the words that begin a section, and how a section ends
pub record Marks : Type 0 where
  pub beginning : List (List ℕ)
  pub ending : Ending

-- the next tokens are these words
abbrev pub are_next : (List ℕ → List ℕ → Bool) → List (List ℕ) → List Token → Bool
are_next is_same [] tokens = true
are_next is_same (word ∷ words) [] = false
are_next is_same (word ∷ words) (t ∷ tokens) = is_same t.bytes word && are_next is_same words tokens

-- the offset behind a token
abbrev pub behind : Token → ℕ
behind t = t.at + length t.bytes

-- The offsets behind the parts of these tokens that end so. The flag says whether the words that end the first stand before.
abbrev pub ends : (List ℕ → List ℕ → Bool) → Ending → Bool → List Token → List ℕ
ends is_same e ended [] = []
ends is_same e ended (t ∷ tokens) =
    if ended || are_next is_same e.words (t ∷ tokens)
    then (if is_same t.bytes e.closing then behind t ∷ ends is_same e false tokens else ends is_same e true tokens)
    else ends is_same e false tokens

abbrev pub vocabulary : Lexis → (List ℕ → List ℕ → Bool) → Vocabulary
vocabulary lexis is_same = record { lexis = lexis; is_same = is_same }
