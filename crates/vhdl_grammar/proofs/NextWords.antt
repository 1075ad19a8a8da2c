-- Words and names of VHDL at the next token.
use Rattle.std.proofs.Common.{◌≡◌, ℕ, true, false, List, [], ◌∷◌, Ok, Err, refl}
use Rattle.vhdl_tokens.specs.Spelling.{is_same}
use Rattle.grammar_rules.specs.Rule.{Verdict, Fits, Foul, Misfit}
use Rattle.grammar_rules.specs.Reading.{read}
use Rattle.grammar_reader.specs.declared.refusal.Refusal.{Refusal}
use Rattle.grammar_reader.specs.declared.refusal.Refusal.TheVariants.{Syntax}
use Rattle.grammar_reader.specs.Next.{is_next, is_next_name, next_bytes, rest}
use Rattle.vhdl_tokens.specs.Tokens.{is_name}
use Rattle.vhdl_grammar.specs.VhdlRules.{named, expect_all}

-- the bytes of a next token that is a name are one
pub next_is_name : (s : List (List ℕ)) (x : List ℕ) → x ≡ next_bytes s → is_next_name is_name s ≡ true → is_name x ≡ true
next_is_name [] x e n = absurd cc
next_is_name (y ∷ s) x e n = rw e n

-- tokens that must stand one behind the other, where the first does, or does not
pub expect_next : (text : List ℕ) (texts s : List (List ℕ)) → is_next is_same text s ≡ true
    → read (expect_all (text ∷ texts)) s ≡ read (expect_all texts) (rest s)
expect_next text texts [] e = absurd cc
expect_next text texts (x ∷ s) e = rw e refl

pub expect_other : (text : List ℕ) (texts s : List (List ℕ)) → is_next is_same text s ≡ false
    → read (expect_all (text ∷ texts)) s ≡ Err (Syntax, s)
expect_other text texts [] e = refl
expect_other text texts (x ∷ s) e = rw e refl

-- what a place says of the name that is next
module _ {A : Type 0} (judge : List ℕ → Verdict A Refusal) where
  pub named_fits : (s : List (List ℕ)) (a : A) → is_name (next_bytes s) ≡ true → judge (next_bytes s) ≡ Fits a
      → read (named judge) s ≡ Ok (a, rest s)
  named_fits [] a e f = absurd cc
  named_fits (x ∷ s) a e f = rw (e, f) refl

  pub named_foul : (s : List (List ℕ)) (k : Refusal) (a : A) → is_name (next_bytes s) ≡ true → judge (next_bytes s) ≡ Foul k a
      → read (named judge) s ≡ Err (k, s)
  named_foul [] k a e f = absurd cc
  named_foul (x ∷ s) k a e f = rw (e, f) refl

  pub named_misfit : (s : List (List ℕ)) (k : Refusal) → is_name (next_bytes s) ≡ true → judge (next_bytes s) ≡ Misfit k
      → read (named judge) s ≡ Err (k, s)
  named_misfit [] k e f = absurd cc
  named_misfit (x ∷ s) k e f = rw (e, f) refl

  pub named_other : (s : List (List ℕ)) → is_name (next_bytes s) ≡ false → read (named judge) s ≡ Err (Syntax, s)
  named_other [] e = refl
  named_other (x ∷ s) e = rw e refl
