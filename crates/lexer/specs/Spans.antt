-- Tokens as places of a text, and the tokens that they are.
use Rattle.std.specs.Prelude.{ℕ, ◌+◌, ◌-◌, ◌≤◌, Bool, List, [], ◌∷◌, ◌++◌, Option, length, map, drop, slice_range}
use Rattle.lexer.specs.Tokens.{Token, Lexis, scan}
use Rattle.lexer.specs.declared.span.Span.{Span}

-- the place of a token that begins at an offset and has so many bytes
abbrev pub span : ℕ → ℕ → Span
span at count = record { at = at; end = at + count }

-- each place lies inside the text
abbrev pub LieInside : List ℕ → List Span → Type 0
LieInside text [] = Unit {0}
LieInside text (s ∷ spans) = (s.at ≤ s.end) × (s.end ≤ length text) × LieInside text spans

-- the bytes of each token
abbrev pub spelled : List ℕ → List Span → List (List ℕ)
spelled text spans = map (λ (s : Span). slice_range text s.at s.end) spans

-- the token at a place of a text
abbrev pub token_of : List ℕ → Span → Token
token_of text s = record { at = s.at; bytes = slice_range text s.at s.end }

abbrev pub tokens_of : List ℕ → List Span → List Token
tokens_of text spans = map (token_of text) spans

-- these tokens stand before those
abbrev pub after_tokens : List Token → List Token × Option ℕ → List Token × Option ℕ
after_tokens before (tokens, fault) = (before ++ tokens, fault)

-- What a scan of a text gives that stands at an offset: the tokens found so far, and those that begin from there on, where no
-- token begins before the offset `next`.
abbrev pub from_here : Lexis → List ℕ → List Span → Bool → ℕ → ℕ → List Token × Option ℕ
from_here l text spans flag next at = after_tokens (tokens_of text spans) (scan l flag at (next - at) (drop at text))
