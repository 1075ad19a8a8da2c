-- Where a token begins, no separator does.
use Rattle.std.proofs.Common.{◌≡◌, ◌<◌, ℕ, Bool, true, false, ◌||◌, nat_eq, List, [], ◌∷◌, refl, subst, arith, codes}
use Rattle.std.proofs.lemmas.Bool.{eqb-true}
use Rattle.verilog_tokens.specs.Tokens.{is_blank, begins_with, separator_length, token_length}
use Rattle.lexer.proofs.Alike.{blanks}

at_blank : (t : Bool) (b : ℕ) (s : List ℕ) → is_blank b ≡ true → token_length t (b ∷ s) ≡ 0
at_blank true b s e = blanks b e (λ c. token_length true (c ∷ s)) refl refl refl
at_blank false b s e = blanks b e (λ c. token_length false (c ∷ s)) refl refl refl

at_slash : (t : Bool) (s : List ℕ) → begins_with (47 ∷ s) (codes "//") || begins_with (47 ∷ s) (codes "/*") ≡ true
    → token_length t (47 ∷ s) ≡ 0
at_slash true s e = rw e refl
at_slash false s e = rw e refl

at_comment : (t : Bool) (b : ℕ) (s : List ℕ) → begins_with (b ∷ s) (codes "//") || begins_with (b ∷ s) (codes "/*") ≡ true
    → token_length t (b ∷ s) ≡ 0
at_comment t b s e = by (nat_eq 47 b) refl
  where
    by : (x : Bool) → nat_eq 47 b ≡ x → token_length t (b ∷ s) ≡ 0
    by true f =
        subst (λ (c : ℕ). begins_with (c ∷ s) (codes "//") || begins_with (c ∷ s) (codes "/*") ≡ true
        → token_length t (c ∷ s) ≡ 0)
        (eqb-true 47 b f) (at_slash t s) e
    by false f = let g = rw f at e in absurd cc

pub no_separator : (t : Bool) (s : List ℕ) → 0 < token_length t s → separator_length s ≡ 0
no_separator t [] h = refl
no_separator t (b ∷ s) h = by (is_blank b) (begins_with (b ∷ s) (codes "//")) (begins_with (b ∷ s) (codes "/*")) refl refl refl
  where
    by : (x y z : Bool) → is_blank b ≡ x → begins_with (b ∷ s) (codes "//") ≡ y → begins_with (b ∷ s) (codes "/*") ≡ z
        → separator_length (b ∷ s) ≡ 0
    by true y z e f g = let k : token_length t (b ∷ s) ≡ 0 = at_blank t b s e in absurd (omega (arith, h, k))
    by false true z e f g = let k : token_length t (b ∷ s) ≡ 0 = at_comment t b s (rw f refl) in absurd (omega (arith, h, k))
    by false false true e f g = let k : token_length t (b ∷ s) ≡ 0 = at_comment t b s (rw (f, g) refl)
        in absurd (omega (arith, h, k))
    by false false false e f g = rw (e, f, g) refl
