-- The tokens of a text, with only separators between them, are its bytes.
use Rattle.std.proofs.Common.{◌≡◌, ℕ, suc, Bool, true, false, not, ◌==◌, if◌then◌else◌, List, ◌∷◌, refl, arith, codes}
use Rattle.std.specs.List.{prefix_len}
use Rattle.vhdl_tokens.specs.Tokens.{is_blank, begins_with, separator_length}
use Rattle.vhdl_tokens.specs.Cover.{IsSeparator, spelling}
use Rattle.vhdl_tokens.specs.Cover as cover
use Rattle.lexer.proofs.Covered.{AsSeparator, blank_here, line_here, Finds}
use Rattle.vhdl_tokens.proofs.Longest.{token_here, token_least}

separator_here : (b k : ℕ) (s : List ℕ) → separator_length (b ∷ s) ≡ suc k → AsSeparator IsSeparator b s k
separator_here b k s e = by (is_blank b) (begins_with (b ∷ s) (codes "--")) refl refl e
  where
    by : (blank line : Bool) → is_blank b ≡ blank → begins_with (b ∷ s) (codes "--") ≡ line →
        (if blank then 1 else (if line then prefix_len (λ c. not (c == 10)) (b ∷ s) else 0)) ≡ suc k
        → AsSeparator IsSeparator b s k
    by true line f g e = blank_here IsSeparator b k s (cover.blank b f) e
    by false true f g e = line_here IsSeparator 45 refl (λ rest body. cover.comment body) b k s g e
    by false false f g e = absurd (omega arith)

-- what must be known of the language
pub finds : Finds spelling
finds = record { separator_here = separator_here; token_here = token_here; token_least = token_least }
