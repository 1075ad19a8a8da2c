-- The text of a name at the next token.
use Rattle.std.proofs.Common.{◌≡◌, ℕ, Bool, true, false, if◌then◌else◌, List, [], ◌∷◌, Ok, Err, refl, ap}
use Rattle.grammar_rules.specs.Reading.{Outcome, judge, read}
use Rattle.grammar_rules.specs.Rule.{Fits, Misfit}
use Rattle.grammar_reader.specs.Next.{next_bytes, rest}
use Rattle.grammar_reader.specs.declared.refusal.Refusal.{Refusal}
use Rattle.grammar_reader.specs.declared.refusal.Refusal.TheVariants.{Syntax}
use Rattle.vhdl_tokens.specs.Spelling.{is_quoted}
use Rattle.vhdl_drivers.specs.DriverSections.{text_of_name}

-- what is read before a token that is the text, or is not
at : List ℕ → List (List ℕ) → Bool → Outcome (List ℕ) Refusal (Unit {0})
at x s b = judge (if b then Fits tt else Misfit Syntax) (λ a. Ok (a, s)) (λ k. Err (k, x ∷ s))

pub text_fits : (name : List ℕ) (s : List (List ℕ)) → is_quoted (next_bytes s) name ≡ true
    → read (text_of_name name) s ≡ Ok (tt, rest s)
unfolding at
text_fits name [] e = absurd cc
text_fits name (x ∷ s) e = ap (at x s) e

pub text_other : (name : List ℕ) (s : List (List ℕ)) → is_quoted (next_bytes s) name ≡ false
    → read (text_of_name name) s ≡ Err (Syntax, s)
unfolding at
text_other name [] e = refl
text_other name (x ∷ s) e = ap (at x s) e
