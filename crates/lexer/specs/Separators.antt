-- What may be added between the tokens of a text without a change of its tokens.
use Rattle.std.specs.Prelude.{◌≡◌, ℕ, suc, Bool, true, not, ◌==◌, List, [], ◌∷◌, ◌++◌, length, Option, is_some}
use Rattle.std.specs.List.{list_all}
use Rattle.lexer.specs.Tokens.{Token, Lexis, is_blank, scan_of, spellings}

-- Separations that may be added: blanks, line ends and comments, each comment behind a blank, where the language says what a
-- comment is, with all that closes it.
pub data IsSeparation (IsComment : List ℕ → Type 0) : List ℕ → Type 0 where
  nothing : IsSeparation IsComment []
  blank : {b : ℕ} {s : List ℕ} → is_blank b ≡ true → IsSeparation IsComment s → IsSeparation IsComment (b ∷ s)
  comment : {s : List ℕ} (b : ℕ) (c rest : List ℕ) → is_blank b ≡ true → IsComment c → IsSeparation IsComment rest →
      s ≡ b ∷ c ++ rest → IsSeparation IsComment s

-- a comment of one line with its line end, which begins with a mark given twice
abbrev pub IsLineComment : ℕ → List ℕ → Type 0
IsLineComment mark c = (body : List ℕ) × (list_all (λ b. not (b == 10)) body ≡ true) × (c ≡ mark ∷ mark ∷ body ++ (10 ∷ []))

-- The second bytes are the first with separations added outside tokens and comments, where the language says what these are.
pub data Padded (l : Lexis) (IsSeparation : List ℕ → Type 0) : Bool → List ℕ → List ℕ → Type 0 where
  same : {flag : Bool} {bytes : List ℕ} → Padded l IsSeparation flag bytes bytes
  added : {flag : Bool} {bytes padded : List ℕ} (s rest : List ℕ) → IsSeparation s → Padded l IsSeparation flag bytes rest →
      padded ≡ s ++ rest → Padded l IsSeparation flag bytes padded
  -- a separator that stands in both. A comment that the end of the text closes would go on into what is added.
  separator : {flag : Bool} {bytes padded : List ℕ} (b : ℕ) (s rest more : List ℕ) →
      bytes ≡ b ∷ s ++ rest → padded ≡ b ∷ s ++ more →
      l.separator_length bytes ≡ suc (length s) → l.separator_length padded ≡ suc (length s) →
      Padded l IsSeparation flag rest more → Padded l IsSeparation flag bytes padded
  token : {flag : Bool} {bytes padded : List ℕ} (b : ℕ) (s rest more : List ℕ) →
      bytes ≡ b ∷ s ++ rest → padded ≡ b ∷ s ++ more →
      l.separator_length bytes ≡ 0 → l.token_length flag bytes ≡ suc (length s) →
      Padded l IsSeparation (l.flag_after flag (b ∷ s)) rest more → Padded l IsSeparation flag bytes padded

-- the bytes of the tokens, and whether there is a lexical fault behind them
abbrev pub spelled : List Token × Option ℕ → List (List ℕ) × Bool
spelled (tokens, fault) = (spellings tokens, is_some fault)

-- both texts have the same tokens, but for their places, and both have a lexical fault or none
abbrev pub HaveSameTokens : Lexis → List ℕ → List ℕ → Type 0
HaveSameTokens l text other = spelled (scan_of l text) ≡ spelled (scan_of l other)
