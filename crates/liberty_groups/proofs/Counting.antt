-- One turn of the statements of the library.
use Rattle.std.proofs.Common.{◌≡◌, ℕ, zero, suc, ◌+◌, ◌-◌, ◌<◌, List, [], ◌∷◌, Ok, Err, refl, ap, ◌∙◌, arith}
use Rattle.grammar_rules.specs.Reading.{Outcome, repeat, read}
use Rattle.liberty_groups.specs.declared.fault.Refusal.{Refusal}
use Rattle.liberty_groups.specs.declared.reader.Start.TheVariants as start
use Rattle.liberty_groups.specs.Lexeme.{Lexeme, next_bytes, rest}
use Rattle.liberty_groups.specs.Grammar.{starts, next_start, next_at}
use Rattle.liberty_groups.specs.Library.{Found, counting, counted_statement}

-- so many more turns of the library's statements
abbrev pub library_turns : ℕ → Found → List Lexeme → Outcome Lexeme (Found × Refusal) Found
library_turns n found s = repeat (λ _. starts) (λ u a r. read (counting u a) r) n found s

less : (n i : ℕ) → i < n → n - i ≡ suc (n - (i + 1))
less n i h = omega arith

empty_suc : (n : ℕ) (found : Found) (s : List Lexeme) → next_start s ≡ start.Empty
    → library_turns (suc n) found s ≡ library_turns n found (rest s)
empty_suc n found [] e = absurd cc
empty_suc n found (x ∷ s) e = rw e refl

pub empty_turn : (n i : ℕ) (found : Found) (s : List Lexeme) → i < n → next_start s ≡ start.Empty →
    library_turns (n - i) found s ≡ library_turns (n - (i + 1)) found (rest s)
empty_turn n i found s h e = ap (λ (k : ℕ). library_turns k found s) (less n i h) ∙ empty_suc (n - (i + 1)) found s e

named_suc : (n : ℕ) (found : Found) (s : List Lexeme) (more : Found) (r : List Lexeme) → next_start s ≡ start.Named →
    read (counted_statement found (next_bytes s) (next_at s)) (rest s) ≡ Ok (more, r)
    → library_turns (suc n) found s ≡ library_turns n more r
named_suc n found [] more r e h = absurd cc
named_suc n found (x ∷ s) more r e h = rw (e, h) refl

pub named_turn : (n i : ℕ) (found : Found) (s : List Lexeme) (more : Found) (r : List Lexeme) → i < n → next_start s ≡ start.Named
    →
    read (counted_statement found (next_bytes s) (next_at s)) (rest s) ≡ Ok (more, r)
    → library_turns (n - i) found s ≡ library_turns (n - (i + 1)) more r
named_turn n i found s more r h e t = ap (λ (k : ℕ). library_turns k found s) (less n i h)
    ∙ named_suc (n - (i + 1)) found s more r e t

failed_suc : (n : ℕ) (found : Found) (s : List Lexeme) (k : Found × Refusal) (m : List Lexeme) → next_start s ≡ start.Named →
    read (counted_statement found (next_bytes s) (next_at s)) (rest s) ≡ Err (k, m) → library_turns (suc n) found s ≡ Err (k, m)
failed_suc n found [] k m e h = absurd cc
failed_suc n found (x ∷ s) k m e h = rw (e, h) refl

pub failed_turn : (n i : ℕ) (found : Found) (s : List Lexeme) (k : Found × Refusal) (m : List Lexeme) → i < n
    → next_start s ≡ start.Named →
    read (counted_statement found (next_bytes s) (next_at s)) (rest s) ≡ Err (k, m) → library_turns (n - i) found s ≡ Err (k, m)
failed_turn n i found s k m h e t = ap (λ (j : ℕ). library_turns j found s) (less n i h)
    ∙ failed_suc (n - (i + 1)) found s k m e t

pub no_turn : (n : ℕ) (found : Found) (s : List Lexeme) → next_start s ≡ start.Other → library_turns n found s ≡ Ok (found, s)
no_turn zero found s e = refl
no_turn (suc n) found [] e = refl
no_turn (suc n) found (x ∷ s) e = rw e refl
