-- One turn of the statements of a group.
use Rattle.std.proofs.Common.{◌≡◌, ◌≢◌, ℕ, zero, suc, ◌+◌, ◌-◌, ◌<◌, List, [], ◌∷◌, ◌++◌, Result, Ok, Err, refl, sym, ap, subst}
use Rattle.std.proofs.Common.{◌∙◌, arith}
use Rattle.grammar_rules.specs.Reading.{Outcome, repeat, read}
use Rattle.liberty_groups.specs.declared.fault.Refusal.{Refusal}
use Rattle.liberty_groups.specs.declared.fault.Stop.{Stop}
use Rattle.liberty_groups.specs.declared.fault.Stop.TheVariants.{Refused, Memory}
use Rattle.liberty_groups.specs.declared.reader.Start.TheVariants as start
use Rattle.liberty_groups.specs.declared.tree.Item.{Item}
use Rattle.liberty_groups.specs.Lexeme.{Lexeme, next_bytes, rest}
use Rattle.liberty_groups.specs.Grammar.{Grammar, starts, one_more, next_start, next_at, body, statement, statements, Reads}

-- so many more turns of statements
abbrev pub statement_turns : (List ℕ → ℕ → Grammar Item) → ℕ → List Item → List Lexeme → Outcome Lexeme Refusal (List Item)
statement_turns rule n items s = repeat (λ _. starts) (λ u a r. read (one_more rule u a) r) n items s

less : (n i : ℕ) → i < n → n - i ≡ suc (n - (i + 1))
less n i h = omega arith

empty_suc : (rule : List ℕ → ℕ → Grammar Item) (n : ℕ) (items : List Item) (s : List Lexeme) → next_start s ≡ start.Empty →
    statement_turns rule (suc n) items s ≡ statement_turns rule n items (rest s)
empty_suc rule n items [] e = absurd cc
empty_suc rule n items (x ∷ s) e = rw e refl

pub empty_turn : (rule : List ℕ → ℕ → Grammar Item) (n i : ℕ) (items : List Item) (s : List Lexeme) → i < n
    → next_start s ≡ start.Empty →
    statement_turns rule (n - i) items s ≡ statement_turns rule (n - (i + 1)) items (rest s)
empty_turn rule n i items s h e = ap (λ (k : ℕ). statement_turns rule k items s) (less n i h)
    ∙ empty_suc rule (n - (i + 1)) items s e

named_suc : (rule : List ℕ → ℕ → Grammar Item) (n : ℕ) (items : List Item) (s : List Lexeme) (item : Item) (r : List Lexeme)
    → next_start s ≡ start.Named →
    read (rule (next_bytes s) (next_at s)) (rest s) ≡ Ok (item, r)
    → statement_turns rule (suc n) items s ≡ statement_turns rule n (items ++ item ∷ []) r
named_suc rule n items [] item r e h = absurd cc
named_suc rule n items (x ∷ s) item r e h = rw (e, h) refl

pub named_turn : (rule : List ℕ → ℕ → Grammar Item) (n i : ℕ) (items : List Item) (s : List Lexeme) (item : Item)
    (r : List Lexeme) → i < n → next_start s ≡ start.Named →
    read (rule (next_bytes s) (next_at s)) (rest s) ≡ Ok (item, r)
    → statement_turns rule (n - i) items s ≡ statement_turns rule (n - (i + 1)) (items ++ item ∷ []) r
named_turn rule n i items s item r h e t = ap (λ (k : ℕ). statement_turns rule k items s) (less n i h)
    ∙ named_suc rule (n - (i + 1)) items s item r e t

failed_suc : (rule : List ℕ → ℕ → Grammar Item) (n : ℕ) (items : List Item) (s : List Lexeme) (k : Refusal) (m : List Lexeme)
    → next_start s ≡ start.Named →
    read (rule (next_bytes s) (next_at s)) (rest s) ≡ Err (k, m) → statement_turns rule (suc n) items s ≡ Err (k, m)
failed_suc rule n items [] k m e h = absurd cc
failed_suc rule n items (x ∷ s) k m e h = rw (e, h) refl

pub failed_turn : (rule : List ℕ → ℕ → Grammar Item) (n i : ℕ) (items : List Item) (s : List Lexeme) (k : Refusal)
    (m : List Lexeme) → i < n → next_start s ≡ start.Named →
    read (rule (next_bytes s) (next_at s)) (rest s) ≡ Err (k, m) → statement_turns rule (n - i) items s ≡ Err (k, m)
failed_turn rule n i items s k m h e t = ap (λ (j : ℕ). statement_turns rule j items s) (less n i h)
    ∙ failed_suc rule (n - (i + 1)) items s k m e t

-- where a statement is refused, so are the statements
pub failed_reads : (rule : List ℕ → ℕ → Grammar Item) (n i : ℕ) (items : List Item) (s : List Lexeme)
    (whole : Outcome Lexeme Refusal (List Item)) →
    i < n → next_start s ≡ start.Named → statement_turns rule (n - i) items s ≡ whole →
    (name : List ℕ × ℕ) (more : List Lexeme) → name ≡ (next_bytes s, next_at s) → more ≡ rest s →
    (found : Result Item Stop) (left : List Lexeme) → Reads (read (rule name.0 name.1) more) found left →
    (e : Stop) → found ≡ Err e → Reads whole (Err e) left
failed_reads rule n i items s whole h b w name more u v found left r Memory e = tt
failed_reads rule n i items s whole h b w name more u v found left r (Refused k) e =
    let t = subst (λ f. Reads (read (rule name.0 name.1) more) f left) e r in
    let o = ap (λ (x : List ℕ × ℕ). read (rule x.0 x.1) more) u
    ∙ ap (λ (m : List Lexeme). read (rule (next_bytes s) (next_at s)) m) v in
    sym w ∙ failed_turn rule n i items s k left h b (sym o ∙ t)

pub no_turn : (rule : List ℕ → ℕ → Grammar Item) (n : ℕ) (items : List Item) (s : List Lexeme) → next_start s ≡ start.Other
    → statement_turns rule n items s ≡ Ok (items, s)
no_turn rule zero items s e = refl
no_turn rule (suc n) items [] e = refl
no_turn rule (suc n) items (x ∷ s) e = rw e refl

-- what follows a brace is the statements of one level less
pub inner : (n : ℕ) (s : List Lexeme) → n ≢ 0 → read (body n) s ≡ read (statements (statement (n - 1))) s
unfolding body
inner zero s h = absurd (h refl)
inner (suc n) s h = let e : n ≡ suc n - 1 = omega arith in ap (λ (m : ℕ). read (statements (statement m)) s) e
