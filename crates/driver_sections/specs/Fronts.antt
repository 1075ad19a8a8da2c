-- The next token of a text from an offset on that stands outside a token.
use Rattle.std.specs.Prelude.{◌≡◌, ◌<◌, ◌≤◌, ◌⊎◌, ℕ, zero, suc, ◌+◌, Bool, List, [], ◌∷◌, length, drop, slice_range}
use Rattle.lexer.specs.Tokens.{Token, Lexis, scan}
use Rattle.lexer.specs.Spans.{token_of}
use Rattle.lexer.specs.declared.span.Span.{Span}

abbrev pub in_gap : (ℕ → ℕ) → ℕ → ℕ
in_gap rest zero = 0
in_gap rest (suc n) = rest n

-- how many bytes of separators stand at the front of these, where so many of them belong to a separator that begins before
abbrev pub gap_length : Lexis → ℕ → List ℕ → ℕ
gap_length l n [] = 0
gap_length l (suc n) (b ∷ bs) = 1 + gap_length l n bs
gap_length l zero (b ∷ bs) = in_gap (λ n. 1 + gap_length l n bs) (l.separator_length (b ∷ bs))

-- the offset behind the separators that stand from an offset on
abbrev pub behind_gap : Lexis → List ℕ → ℕ → ℕ
behind_gap l text from = from + gap_length l 0 (drop from text)

-- this is the place of the next token from an offset on
pub record IsNext (l : Lexis) (flag : Bool) (text : List ℕ) (from : ℕ) (t : Span) : Type 0 where
  pub place : t.at ≡ behind_gap l text from
  pub alone : l.separator_length (drop t.at text) ≡ 0
  pub size : t.end ≡ t.at + l.token_length flag (drop t.at text)
  pub some : t.at < t.end
  pub within : t.end ≤ length text

-- no token stands from an offset on: the text ends, or there is a lexical fault
abbrev pub HasNoNext : Lexis → Bool → List ℕ → ℕ → Type 0
HasNoNext l flag text from =
    (length text ≤ behind_gap l text from)
    ⊎ ((l.separator_length (drop (behind_gap l text from) text) ≡ 0)
    × (l.token_length flag (drop (behind_gap l text from) text) ≡ 0))

-- the tokens from an offset on
abbrev pub tokens_from : Lexis → Bool → List ℕ → ℕ → List Token
tokens_from l flag text from = (scan l flag from 0 (drop from text)).0

-- a token at this place, and those behind it
abbrev pub tokens_at : Lexis → Bool → List ℕ → Span → List Token
tokens_at l flag text t = token_of text t ∷ tokens_from l (l.flag_after flag (slice_range text t.at t.end)) text t.end
