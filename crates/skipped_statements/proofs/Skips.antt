-- One turn of values and of statements that are gone past.
use Rattle.std.proofs.Common.{◌≡◌, ◌≢◌, ℕ, zero, suc, ◌+◌, ◌-◌, ◌<◌, true, false, List, [], ◌∷◌, Some, None, Result, Ok, Err}
use Rattle.std.proofs.Common.{refl, sym, ap, subst, ◌∙◌, arith}
use Rattle.liberty_text.specs.declared.token.Token.{Token}
use Rattle.grammar_rules.specs.Rule.{Gives}
use Rattle.grammar_rules.specs.Reading.{Outcome, repeat, read}
use Rattle.liberty_groups.specs.declared.fault.Refusal.{Refusal}
use Rattle.liberty_groups.specs.declared.fault.Stop.{Stop}
use Rattle.liberty_groups.specs.declared.fault.Stop.TheVariants.{Refused, Memory}
use Rattle.liberty_groups.specs.declared.reader.Place.{Place}
use Rattle.liberty_groups.specs.declared.reader.Start.TheVariants as start
use Rattle.liberty_groups.specs.Lexeme.{Lexeme, next_token, rest}
use Rattle.liberty_groups.specs.Grammar.{goes_on, starts, next_start, Reads}
use Rattle.skipped_statements.specs.Skipping.{Skipping, passed_at, skipped_more, skipped_statements, skipped_statement}
use Rattle.skipped_statements.specs.Skipping.{skipped_body}

less : (n i : ℕ) → i < n → n - i ≡ suc (n - (i + 1))
less n i h = omega arith

some_is : {a b : Token} → Some a ≡ Some b → a ≡ b
some_is e = cc

-- so many more turns of values
abbrev pub part_turns : Place → ℕ → List Lexeme → Outcome Lexeme Refusal (Unit {0})
part_turns p n s = repeat (λ _. passed_at p) (λ (v : Unit {0}) (a : Unit {0}) r. read (Gives tt) r) n tt s

part_suc : (p : Place) (n : ℕ) (s : List Lexeme) (t : Token) → next_token s ≡ Some t → goes_on p t ≡ true
    → part_turns p (suc n) s ≡ part_turns p n (rest s)
part_suc p n [] t e h = absurd cc
part_suc p n (x ∷ s) t e h = let i : goes_on p x.token ≡ true = ap (goes_on p) (some_is e) ∙ h in rw i refl

pub part_turn : (p : Place) (n i : ℕ) (s : List Lexeme) (t : Token) → i < n → next_token s ≡ Some t → goes_on p t ≡ true →
    part_turns p (n - i) s ≡ part_turns p (n - (i + 1)) (rest s)
part_turn p n i s t l e h = ap (λ (m : ℕ). part_turns p m s) (less n i l) ∙ part_suc p (n - (i + 1)) s t e h

pub part_end : (p : Place) (n : ℕ) (s : List Lexeme) (t : Token) → next_token s ≡ Some t → goes_on p t ≡ false
    → part_turns p n s ≡ Ok (tt, s)
part_end p zero s t e h = refl
part_end p (suc n) [] t e h = refl
part_end p (suc n) (x ∷ s) t e h = let i : goes_on p x.token ≡ false = ap (goes_on p) (some_is e) ∙ h in rw i refl

pub part_none : (p : Place) (n : ℕ) (s : List Lexeme) → next_token s ≡ None → part_turns p n s ≡ Ok (tt, s)
part_none p zero s e = refl
part_none p (suc n) [] e = refl
part_none p (suc n) (x ∷ s) e = absurd cc

-- so many more turns of statements
abbrev pub statement_turns : Skipping → ℕ → List Lexeme → Outcome Lexeme Refusal (Unit {0})
statement_turns rule n s = repeat (λ _. starts) (λ u a r. read (skipped_more rule u a) r) n tt s

empty_suc : (rule : Skipping) (n : ℕ) (s : List Lexeme) → next_start s ≡ start.Empty
    → statement_turns rule (suc n) s ≡ statement_turns rule n (rest s)
empty_suc rule n [] e = absurd cc
empty_suc rule n (x ∷ s) e = rw e refl

pub empty_turn : (rule : Skipping) (n i : ℕ) (s : List Lexeme) → i < n → next_start s ≡ start.Empty →
    statement_turns rule (n - i) s ≡ statement_turns rule (n - (i + 1)) (rest s)
empty_turn rule n i s h e = ap (λ (k : ℕ). statement_turns rule k s) (less n i h) ∙ empty_suc rule (n - (i + 1)) s e

named_suc : (rule : Skipping) (n : ℕ) (s r : List Lexeme) → next_start s ≡ start.Named → read rule (rest s) ≡ Ok (tt, r) →
    statement_turns rule (suc n) s ≡ statement_turns rule n r
named_suc rule n [] r e h = absurd cc
named_suc rule n (x ∷ s) r e h = rw (e, h) refl

pub named_turn : (rule : Skipping) (n i : ℕ) (s r : List Lexeme) → i < n → next_start s ≡ start.Named
    → read rule (rest s) ≡ Ok (tt, r) →
    statement_turns rule (n - i) s ≡ statement_turns rule (n - (i + 1)) r
named_turn rule n i s r h e t = ap (λ (k : ℕ). statement_turns rule k s) (less n i h) ∙ named_suc rule (n - (i + 1)) s r e t

pub no_turn : (rule : Skipping) (n : ℕ) (s : List Lexeme) → next_start s ≡ start.Other → statement_turns rule n s ≡ Ok (tt, s)
no_turn rule zero s e = refl
no_turn rule (suc n) [] e = refl
no_turn rule (suc n) (x ∷ s) e = rw e refl

-- what follows a brace is the statements of one level less
pub inner : (n : ℕ) (s : List Lexeme) → n ≢ 0 → read (skipped_body n) s ≡ read (skipped_statements (skipped_statement (n - 1))) s
unfolding skipped_body
inner zero s h = absurd (h refl)
inner (suc n) s h = let e : n ≡ suc n - 1 = omega arith in ap (λ (m : ℕ). read (skipped_statements (skipped_statement m)) s) e
