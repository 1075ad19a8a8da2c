-- What is added between tokens changes none.
use Rattle.std.proofs.Common.{◌≡◌, inl, inr, ℕ, suc, ◌+◌, Bool, true, false, ◌&&◌, ◌==◌, if◌then◌else◌, List, [], ◌∷◌, ◌++◌}
use Rattle.std.proofs.Common.{length, Option, Some, None, unwrap_or, refl, sym, ap, ◌∙◌, arith, append_assoc, length-append}
use Rattle.verilog_tokens.specs.Tokens.{is_blank, later, comment_rest, separator_length, token_length, is_open_after, lexis, scan}
use Rattle.verilog_tokens.specs.Separators.{IsComment, Padded, spelled, HaveSameTokens}
pub use Rattle.lexer.proofs.Padding.{Found, word_before}
use Rattle.lexer.proofs.Padding.{Lets}
use Rattle.lexer.proofs.Padding as padding
use Rattle.verilog_tokens.proofs.Stays.{token_stays}
use Rattle.verilog_tokens.proofs.TokenFirst.{no_separator}

-- the tokens are the same at any offset
pub any_offset : (t : Bool) (at z n : ℕ) (s : List ℕ) → spelled (scan t at n s) ≡ spelled (scan t z n s)
any_offset = padding.any_offset lexis

pub over_separator : (t : Bool) (at z b : ℕ) (w r : List ℕ) → separator_length (b ∷ w ++ r) ≡ suc (length w) →
    spelled (scan t at 0 (b ∷ w ++ r)) ≡ spelled (scan t z 0 r)
over_separator = padding.over_separator lexis

pub over_token : (t : Bool) (at z b : ℕ) (w r : List ℕ) → separator_length (b ∷ w ++ r) ≡ 0
    → token_length t (b ∷ w ++ r) ≡ suc (length w) →
    spelled (scan t at 0 (b ∷ w ++ r)) ≡ word_before (b ∷ w) (spelled (scan (is_open_after t (b ∷ w)) z 0 r))
over_token = padding.over_token lexis

-- a blank is a separator of one byte
pub blank_length : (b : ℕ) (s : List ℕ) → is_blank b ≡ true → separator_length (b ∷ s) ≡ 1
blank_length b s e = rw e refl

no_end : (t : Bool) (o : Option ℕ) → (if t then Some 1 else later 1 o) ≡ None → (t ≡ false) × (o ≡ None)
no_end true o e = absurd cc
no_end false None e = (refl, refl)
no_end false (Some n) e = absurd cc

-- the bytes of a comment up to its end
closes : (star : Bool) (body r : List ℕ) → comment_rest star body ≡ None
    → comment_rest star (body ++ (42 ∷ 47 ∷ r)) ≡ Some (length body + 2)
closes true [] r e = refl
closes false [] r e = refl
closes star (c ∷ body) r e =
    let s = no_end (star && c == 47) (comment_rest (c == 42) body) e in
    let i = closes (c == 42) body r s.1 in
    let n : 1 + (length body + 2) ≡ suc (length body) + 2 = omega arith in
    ap (λ (t : Bool). if t then Some 1 else later 1 (comment_rest (c == 42) (body ++ (42 ∷ 47 ∷ r)))) s.0 ∙ ap (later 1) i
    ∙ ap (λ (k : ℕ). Some k) n

over_block : (c : List ℕ) (body : List ℕ) → comment_rest false body ≡ None → c ≡ 47 ∷ 42 ∷ body ++ (42 ∷ 47 ∷ [])
    → (t : Bool) (at z : ℕ) (r : List ℕ) →
    spelled (scan t at 0 (c ++ r)) ≡ spelled (scan t z 0 r)
over_block c body e f t at z r =
    let w : List ℕ = 42 ∷ body ++ (42 ∷ 47 ∷ []) in
    let same : 42 ∷ body ++ (42 ∷ 47 ∷ r) ≡ w ++ r = ap (λ (s : List ℕ). 42 ∷ s) (sym (append_assoc body (42 ∷ 47 ∷ []) r)) in
    let i : separator_length (47 ∷ 42 ∷ body ++ (42 ∷ 47 ∷ r)) ≡ 2 + (length body + 2) =
    ap (λ (o : Option ℕ). unwrap_or (later 2 o) 0) (closes false body r e) in
    let n : 2 + (length body + 2) ≡ suc (length w) = omega (arith, length-append body (42 ∷ 47 ∷ [])) in
    ap (λ (s : List ℕ). spelled (scan t at 0 (s ++ r))) f
    ∙ over_separator t at z 47 w r (sym (ap (λ (s : List ℕ). separator_length (47 ∷ s)) same) ∙ i ∙ n)

over_comment : (c : List ℕ) → IsComment c → (t : Bool) (at z : ℕ) (r : List ℕ)
    → spelled (scan t at 0 (c ++ r)) ≡ spelled (scan t z 0 r)
over_comment c (inl line) = padding.over_line lexis blank_length 47 (λ s. refl) c line
over_comment c (inr (body, e, f)) = over_block c body e f

-- what must be known of the language
pub lets : Lets lexis IsComment
lets = record { blank_length = blank_length; over_comment = over_comment; token_first = no_separator; token_stays = token_stays }

-- what is added between tokens changes none
pub same_tokens : (text other : List ℕ) → Padded false text other → HaveSameTokens text other
same_tokens = padding.same_tokens lexis IsComment lets
