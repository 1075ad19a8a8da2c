-- Tokens with the bytes that spell them: what the grammar of Liberty texts reads.
use Rattle.std.specs.Prelude.{ℕ, ◌+◌, ◌≤◌, List, [], ◌∷◌, length, map, slice_range, Option, Some, None}
use Rattle.liberty_text.specs.declared.token.Token.{Token}

pub record Lexeme : Type 0 where
  pub token : Token
  pub bytes : List ℕ

abbrev pub lexeme_of : List ℕ → Token → Lexeme
lexeme_of text t = record { token = t; bytes = slice_range text t.at t.end }

abbrev pub lexemes_of : List ℕ → List Token → List Lexeme
lexemes_of text ts = map (lexeme_of text) ts

-- a token of a part of a text, told by the offsets of the whole text, of which so many bytes stand before
-- the part
abbrev pub behind : ℕ → Token → Token
behind before t = record { kind = t.kind; at = t.at + before; end = t.end + before; line_before = t.line_before }

abbrev pub lexeme_behind : ℕ → List ℕ → Token → Lexeme
lexeme_behind before text t = record { token = behind before t; bytes = slice_range text t.at t.end }

abbrev pub lexemes_behind : ℕ → List ℕ → List Token → List Lexeme
lexemes_behind before text ts = map (lexeme_behind before text) ts

-- each token lies inside the text
abbrev pub LieInside : List ℕ → List Token → Type 0
LieInside text [] = Unit {0}
LieInside text (t ∷ ts) = (t.at ≤ t.end) × (t.end ≤ length text) × LieInside text ts

abbrev pub next_token : List Lexeme → Option Token
next_token [] = None
next_token (x ∷ s) = Some x.token

abbrev pub next_bytes : List Lexeme → List ℕ
next_bytes [] = []
next_bytes (x ∷ s) = x.bytes

abbrev pub rest : List Lexeme → List Lexeme
rest [] = []
rest (x ∷ s) = s
