-- The bytes of tokens, by their places.
use Rattle.std.proofs.Common.{◌≡◌, ℕ, List, [], ◌∷◌, refl, ap, slice_range}
use Rattle.lexer.specs.Tokens.{spellings}
use Rattle.lexer.specs.declared.span.Span.{Span}
use Rattle.lexer.specs.Spans.{tokens_of}
use Rattle.lexer.specs.Spans as cursor

pub spelled : (text : List ℕ) (spans : List Span) → cursor.spelled text spans ≡ spellings (tokens_of text spans)
spelled text [] = refl
spelled text (s ∷ spans) = ap (λ (w : List (List ℕ)). slice_range text s.at s.end ∷ w) (spelled text spans)
