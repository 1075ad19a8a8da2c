-- What is added between tokens changes none.
use Rattle.std.proofs.Common.{◌≡◌, ℕ, suc, Bool, true, List, ◌∷◌, ◌++◌, length, refl}
use Rattle.vhdl_tokens.specs.Tokens.{is_blank, separator_length, token_length, is_name, lexis, scan}
use Rattle.vhdl_tokens.specs.Separators.{IsComment, spelled}
pub use Rattle.lexer.proofs.Padding.{Found, word_before}
use Rattle.lexer.proofs.Padding.{Lets}
use Rattle.lexer.proofs.Padding as padding
use Rattle.vhdl_tokens.proofs.Stays.{token_stays}
use Rattle.vhdl_tokens.proofs.TokenFirst.{no_separator}

-- the tokens are the same at any offset
pub any_offset : (t : Bool) (at z n : ℕ) (s : List ℕ) → spelled (scan t at n s) ≡ spelled (scan t z n s)
any_offset = padding.any_offset lexis

pub over_token : (t : Bool) (at z b : ℕ) (w r : List ℕ) → separator_length (b ∷ w ++ r) ≡ 0
    → token_length t (b ∷ w ++ r) ≡ suc (length w) →
    spelled (scan t at 0 (b ∷ w ++ r)) ≡ word_before (b ∷ w) (spelled (scan (is_name (b ∷ w)) z 0 r))
over_token = padding.over_token lexis

-- a blank is a separator of one byte
pub blank_length : (b : ℕ) (s : List ℕ) → is_blank b ≡ true → separator_length (b ∷ s) ≡ 1
blank_length b s e = rw e refl

-- what must be known of the language
pub lets : Lets lexis IsComment
lets = record {
  blank_length = blank_length;
  over_comment = padding.over_line lexis blank_length 45 (λ s. refl);
  token_first =
      no_separator;
  token_stays = token_stays;
}
