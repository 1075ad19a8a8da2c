-- One of two words, at the next token.
use Rattle.std.proofs.Common.{◌≡◌, ℕ, if◌then◌else◌, List, [], ◌∷◌, Option, Some, None, Ok, Err, refl}
use Rattle.grammar_rules.specs.Reading.{judge, read}
use Rattle.grammar_reader.specs.declared.refusal.Refusal.TheVariants.{Syntax}
use Rattle.grammar_reader.specs.Next.{is_next}
use Rattle.grammar_reader.specs.Reading.{found_at}
use Rattle.grammar_reader.specs.Words.{valued, allowed_by}
use Rattle.vhdl_tokens.specs.Spelling.{is_same}
use Rattle.vhdl_grammar.specs.EitherWord.{either_word}

-- what is read at a token, by the one of the words that it is
pub either_found : {A : Type 0} (first second : List ℕ) (one other : A) (s : List (List ℕ)) →
    read (valued (either_word first one second other)) s ≡ found_at
    (if is_next is_same first s then Some one else (if is_next is_same second s then Some other else None)) s
either_found first second one other [] = refl
either_found {A} first second one other (x ∷ s) = by (either_word first one second other x)
  where
    by : (o : Option A) → judge (allowed_by Syntax o) (λ a. Ok (a, s)) (λ k. Err (k, x ∷ s)) ≡ found_at o (x ∷ s)
    by None = refl
    by (Some a) = refl
