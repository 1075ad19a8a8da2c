-- A rule without what it gives takes and refuses the same tokens.
use Rattle.std.proofs.Common.{◌≡◌, ℕ, zero, suc, Bool, true, false, List, [], ◌∷◌, ◌++◌, length, Option, Some, None, Ok, Err}
use Rattle.std.proofs.Common.{refl, sym, ap, ◌∙◌, cond}
use Rattle.grammar_rules.specs.Rule.{Verdict, Fits, Foul, Misfit}
use Rattle.grammar_rules.specs.Rule as r
use Rattle.grammar_rules.specs.Reading.{Outcome, and_then, judge_first, repeat, read}
use Rattle.liberty_groups.specs.declared.fault.Expected.TheVariants as expected
use Rattle.liberty_groups.specs.declared.fault.Refusal.{Refusal}
use Rattle.liberty_groups.specs.declared.fault.Refusal.TheVariants.{Syntax}
use Rattle.liberty_groups.specs.declared.fault.Stop.{Stop}
use Rattle.liberty_groups.specs.declared.fault.Stop.TheVariants.{Refused, Memory}
use Rattle.liberty_groups.specs.declared.reader.Mark.TheVariants as mark
use Rattle.liberty_groups.specs.declared.reader.Place.{Place}
use Rattle.liberty_groups.specs.declared.reader.Place.TheVariants as place
use Rattle.liberty_groups.specs.declared.tree.Item.{Item}
use Rattle.liberty_groups.specs.declared.tree.Item.TheVariants as item
use Rattle.liberty_groups.specs.declared.tree.Value.{Value}
use Rattle.liberty_groups.specs.Lexeme.{Lexeme}
use Rattle.liberty_groups.specs.Grammar.{Grammar, ◌>>=◌, expect, part_of, part_at, goes_on, parts, arguments, value_end}
use Rattle.liberty_groups.specs.Grammar.{more_value, no_value, value, colon, simple, starts, one_more, some_statements}
use Rattle.liberty_groups.specs.Grammar.{statements, opens, group_of, complex_or_group, bracketed, after_name, body, statement}
use Rattle.liberty_groups.specs.Grammar.{Reads}
use Rattle.skipped_statements.specs.Skipping.{Skipping, passed_at, skipped_parts, skipped_arguments, skipped_more_value}
use Rattle.skipped_statements.specs.Skipping.{skipped_no_value, skipped_value, skipped_more, skipped_some, skipped_statements}
use Rattle.skipped_statements.specs.Skipping.{skipped_group, skipped_bracketed, skipped_after_name, skipped_body}
use Rattle.skipped_statements.specs.Skipping.{skipped_statement, forgotten}

-- the second rule is the first one without what it gives
abbrev Forgets : {A : Type 0} → Grammar A → Skipping → Type 0
Forgets p q = (s : List Lexeme) → forgotten (read p s) ≡ read q s

-- a verdict with another value
abbrev told : {A B : Type 0} → (A → B) → Option (Verdict A Refusal) → Option (Verdict B Refusal)
told h None = None
told h (Some (Fits a)) = Some (Fits (h a))
told h (Some (Foul k a)) = Some (Foul k (h a))
told h (Some (Misfit k)) = Some (Misfit k)

told_same : {A : Type 0} (v : Option (Verdict A Refusal)) → v ≡ told (λ a. a) v
told_same None = refl
told_same (Some (Fits a)) = refl
told_same (Some (Foul k a)) = refl
told_same (Some (Misfit k)) = refl

then_forgets : {A B : Type 0} (o : Outcome Lexeme Refusal A) (k : A → List Lexeme → Outcome Lexeme Refusal B) (k' : Unit {0}
    → List Lexeme → Outcome Lexeme Refusal (Unit {0})) →
    ((a : A) (m : List Lexeme) → forgotten (k a m) ≡ k' tt m) → forgotten (and_then o k) ≡ and_then (forgotten o) k'
then_forgets (Ok p) k k' h = h p.0 p.1
then_forgets (Err e) k k' h = refl

forgets_then : {A B : Type 0} (p : Grammar A) (g : A → Grammar B) (p' : Skipping) (g' : Unit {0} → Skipping) → Forgets p p'
    → ((a : A) → Forgets (g a) (g' tt)) →
    Forgets (p >>= g) (p' >>= g')
forgets_then p g p' g' h i s =
    then_forgets (read p s) (λ a m. read (g a) m) (λ u m. read (g' u) m) (λ a m. i a m)
    ∙ ap (λ o. and_then o (λ u m. read (g' u) m)) (h s)

same_unit : (o : Outcome Lexeme Refusal (Unit {0})) → forgotten o ≡ o
same_unit (Ok (tt, m)) = refl
same_unit (Err e) = refl

forgets_unit : (p : Skipping) → Forgets p p
forgets_unit p s = same_unit (read p s)

-- a rule, and then nothing but a value
forgets_value : {A : Type 0} (p : Skipping) (a : A) → Forgets (p >>= λ _. r.Gives a) (p >>= λ _. r.Gives tt)
forgets_value {A} p a = forgets_then p (λ _. r.Gives {K = Refusal} {A = A} a) p (λ _. r.Gives {K = Refusal} {A = Unit {0}} tt)
    (forgets_unit p) (λ u m. refl)

first_forgets : {A B C : Type 0} (h : A → B) (v : Option (Verdict A Refusal)) (go : A → Outcome Lexeme Refusal C) (go' : B
    → Outcome Lexeme Refusal (Unit {0})) (left : List Lexeme)
    (other : Outcome Lexeme Refusal C) (other' : Outcome Lexeme Refusal (Unit {0})) → ((a : A) → forgotten (go a) ≡ go' (h a))
    → forgotten other ≡ other' →
    forgotten (judge_first v go (λ k. Err (k, left)) other) ≡ judge_first (told h v) go' (λ k. Err (k, left)) other'
first_forgets h None go go' left other other' i j = j
first_forgets h (Some (Fits a)) go go' left other other' i j = i a
first_forgets h (Some (Foul k a)) go go' left other other' i j = refl
first_forgets h (Some (Misfit k)) go go' left other other' i j = refl

forgets_choice : {A B C : Type 0} (h : A → B) (f : Lexeme → Option (Verdict A Refusal)) (f' : Lexeme → Option (Verdict B Refusal))
    (g : A → Grammar C) (p : Grammar C) (g' : B → Skipping) (p' : Skipping) →
    ((x : Lexeme) → f' x ≡ told h (f x)) → ((a : A) → Forgets (g a) (g' (h a))) → Forgets p p'
    → Forgets (r.Choice f g p) (r.Choice f' g' p')
forgets_choice h f f' g p g' p' e i j [] = j []
forgets_choice h f f' g p g' p' e i j (x ∷ m) =
    first_forgets h (f x) (λ a. read (g a) m) (λ b. read (g' b) m) (x ∷ m) (read p (x ∷ m)) (read p' (x ∷ m)) (λ a. i a m)
    (j (x ∷ m))
    ∙ ap (λ v. judge_first v (λ b. read (g' b) m) (λ k. Err (k, x ∷ m)) (read p' (x ∷ m))) (sym (e x))

repeat_forgets : {A B S : Type 0} (h : A → B) (f : S → Lexeme → Option (Verdict A Refusal)) (f' : Unit {0} → Lexeme
    → Option (Verdict B Refusal)) (g : S → A → Grammar S) (g' : Unit {0} → B → Skipping) →
    ((u : S) (x : Lexeme) → f' tt x ≡ told h (f u x)) → ((u : S) (a : A) → Forgets (g u a) (g' tt (h a)))
    → (n : ℕ) (u : S) (s : List Lexeme) →
    forgotten (repeat f (λ v a m. read (g v a) m) n u s) ≡ repeat f' (λ v b m. read (g' v b) m) n tt s
repeat_forgets h f f' g g' e i zero u s = refl
repeat_forgets h f f' g g' e i (suc n) u [] = refl
repeat_forgets {A} {B} {S} h f f' g g' e i (suc n) u (x ∷ m) =
    first_forgets h (f u x) (λ a. and_then (read (g u a) m) (λ v q. repeat f (λ v a m. read (g v a) m) n v q))
    (λ b. and_then (read (g' tt b) m) (λ v q. repeat f' (λ v b m. read (g' v b) m) n v q)) (x ∷ m)
    (Ok (u, x ∷ m)) (Ok (tt, x ∷ m))
    (λ a. then_forgets (read (g u a) m) (λ v q. repeat f (λ v a m. read (g v a) m) n v q)
    (λ v q. repeat f' (λ v b m. read (g' v b) m) n v q) (λ v q. repeat_forgets h f f' g g' e i n v q)
    ∙ ap (λ o. and_then o (λ v q. repeat f' (λ v b m. read (g' v b) m) n v q)) (i u a m))
    refl
    ∙ ap (λ v. judge_first v (λ b. and_then (read (g' tt b) m) (λ v q. repeat f' (λ v b m. read (g' v b) m) n v q))
    (λ k. Err (k, x ∷ m)) (Ok (tt, x ∷ m))) (sym (e u x))

forgets_many : {A B S : Type 0} (h : A → B) (f : S → Lexeme → Option (Verdict A Refusal)) (f' : Unit {0} → Lexeme
    → Option (Verdict B Refusal)) (g : S → A → Grammar S) (g' : Unit {0} → B → Skipping) (u : S) →
    ((u : S) (x : Lexeme) → f' tt x ≡ told h (f u x)) → ((u : S) (a : A) → Forgets (g u a) (g' tt (h a)))
    → Forgets (r.Many f g u) (r.Many f' g' tt)
forgets_many h f f' g g' u e i s = repeat_forgets h f f' g g' e i (length s) u s

passed : (b : Bool) (part : List Value)
    → ◌≡◌ {A = Option (Verdict (Unit {0}) Refusal)} (cond b (Some (Fits tt)) None)
    (told (λ _. tt) (cond b (Some (Fits part)) None))
passed true part = refl
passed false part = refl

passed_part : (p : Place) (x : Lexeme) → passed_at p x ≡ told (λ _. tt) (part_at p x)
passed_part p x = passed (goes_on p x.token) (part_of x)

forgets_parts : (p : Place) (found : List Value) → Forgets (parts p found) (skipped_parts p)
forgets_parts p found =
    forgets_many (λ _. tt) (λ _. part_at p) (λ _. passed_at p) (λ found part. r.Gives (found ++ part)) (λ _ _. r.Gives tt) found
    (λ u x. passed_part p x) (λ u a m. refl)

forgets_arguments : Forgets arguments skipped_arguments
unfolding arguments skipped_arguments
forgets_arguments =
    forgets_then (parts place.Arguments []) (λ found. expect mark.Close (Syntax expected.Argument) >>= λ _. r.Gives found)
    (skipped_parts place.Arguments) (λ _. expect mark.Close (Syntax expected.Argument) >>= λ _. r.Gives tt)
    (forgets_parts place.Arguments [])
    (λ found. forgets_value (expect mark.Close (Syntax expected.Argument)) found)

forgets_more : (part : List Value) → Forgets (more_value part) skipped_more_value
unfolding more_value skipped_more_value
forgets_more part =
    forgets_then (parts place.Value part) (λ found. value_end place.Value >>= λ _. r.Gives found)
    (skipped_parts place.Value) (λ _. value_end place.Value >>= λ _. r.Gives tt) (forgets_parts place.Value part)
    (λ found. forgets_value (value_end place.Value) found)

forgets_none : Forgets no_value skipped_no_value
unfolding no_value skipped_no_value
forgets_none = forgets_value (value_end place.ValueStart) []

forgets_simple : (name : List ℕ) (at : ℕ) → Forgets (simple name at) skipped_value
unfolding simple value skipped_value
forgets_simple name at s = ended (read value s) ∙ of_value s
  where
    of_value : Forgets value skipped_value
    of_value = forgets_choice (λ _. tt) (part_at place.ValueStart) (passed_at place.ValueStart) more_value no_value
        (λ _. skipped_more_value) skipped_no_value
        (λ x. passed_part place.ValueStart x) (λ part. forgets_more part) forgets_none

    ended : (o : Outcome Lexeme Refusal (List Value))
        → forgotten (and_then o (λ found m. read (r.Gives {K = Refusal} (item.Simple name found at)) m)) ≡ forgotten o
    ended (Ok p) = refl
    ended (Err e) = refl

forgets_one : (rule : List ℕ → ℕ → Grammar Item) (rule' : Skipping) → ((name : List ℕ) (at : ℕ) → Forgets (rule name at) rule') →
    (items : List Item) (a : Option Lexeme) → Forgets (one_more rule items a) (skipped_more rule' tt a)
forgets_one rule rule' h items None s = refl
forgets_one rule rule' h items (Some x) s = ended (read (rule x.bytes x.token.at) s) ∙ h x.bytes x.token.at s
  where
    ended : (o : Outcome Lexeme Refusal Item)
        → forgotten (and_then o (λ found m. read (r.Gives {K = Refusal} (items ++ found ∷ [])) m)) ≡ forgotten o
    ended (Ok p) = refl
    ended (Err e) = refl

forgets_statements : (rule : List ℕ → ℕ → Grammar Item) (rule' : Skipping)
    → ((name : List ℕ) (at : ℕ) → Forgets (rule name at) rule') → Forgets (statements rule) (skipped_statements rule')
forgets_statements rule rule' h =
    forgets_then (some_statements rule []) (λ items. expect mark.End (Syntax expected.Statement) >>= λ _. r.Gives items)
    (skipped_some rule') (λ _. expect mark.End (Syntax expected.Statement) >>= λ _. r.Gives tt)
    (forgets_many (λ a. a) (λ _. starts) (λ _. starts) (one_more rule) (skipped_more rule') [] (λ u x. told_same (starts x))
    (λ items a. forgets_one rule rule' h items a))
    (λ items. forgets_value (expect mark.End (Syntax expected.Statement)) items)

forgets_group : (n : ℕ) (inside : Grammar (List Item)) (inside' : Skipping) → Forgets inside inside'
    → (name : List ℕ) (arguments : List Value) (at : ℕ) →
    Forgets (complex_or_group n inside name arguments at) (skipped_group n inside')
unfolding complex_or_group skipped_group
forgets_group n inside inside' h name arguments at =
    forgets_choice (λ a. a) (opens n) (opens n) (λ _. inside >>= λ items. r.Gives (group_of name arguments items at))
    (r.Gives (item.Complex name arguments at)) (λ _. inside') (r.Gives tt)
    (λ x. told_same (opens n x)) (λ u s. ended (read inside s) ∙ h s) (λ s. refl)
  where
    ended : (o : Outcome Lexeme Refusal (List Item))
        → forgotten (and_then o (λ items m. read (r.Gives {K = Refusal} (group_of name arguments items at)) m)) ≡ forgotten o
    ended (Ok p) = refl
    ended (Err e) = refl

forgets_bracketed : (n : ℕ) (inside : Grammar (List Item)) (inside' : Skipping) → Forgets inside inside'
    → (name : List ℕ) (at : ℕ) → Forgets (bracketed n inside name at) (skipped_bracketed n inside')
unfolding bracketed skipped_bracketed
forgets_bracketed n inside inside' h name at =
    forgets_then (expect mark.Open (Syntax expected.AfterName))
    (λ _. arguments >>= λ found. complex_or_group n inside name found at)
    (expect mark.Open (Syntax expected.AfterName)) (λ _. skipped_arguments >>= λ _. skipped_group n inside')
    (forgets_unit (expect mark.Open (Syntax expected.AfterName)))
    (λ u. forgets_then arguments (λ found. complex_or_group n inside name found at) skipped_arguments
    (λ _. skipped_group n inside') forgets_arguments
    (λ found. forgets_group n inside inside' h name found at))

forgets_after_name : (n : ℕ) (inside : Grammar (List Item)) (inside' : Skipping) → Forgets inside inside'
    → (name : List ℕ) (at : ℕ) → Forgets (after_name n inside name at) (skipped_after_name n inside')
forgets_after_name n inside inside' h name at =
    forgets_choice (λ a. a) colon colon (λ _. simple name at) (bracketed n inside name at) (λ _. skipped_value)
    (skipped_bracketed n inside')
    (λ x. told_same (colon x)) (λ u. forgets_simple name at) (forgets_bracketed n inside inside' h name at)

forgets_body : (n : ℕ) → Forgets (body n) (skipped_body n)
unfolding body skipped_body
forgets_body zero s = refl
forgets_body (suc n) s =
    forgets_statements (after_name n (body n)) (skipped_after_name n (skipped_body n))
    (λ name at. forgets_after_name n (body n) (skipped_body n) (forgets_body n) name at) s

error_of : {A : Type 0} (o : Outcome Lexeme Refusal A) (e : Refusal × List Lexeme) → forgotten o ≡ Err e → o ≡ Err e
error_of (Ok p) e h = absurd cc
error_of (Err f) e h = let same : f ≡ e = cc in ap Err same

-- a statement is refused where it is gone past
pub refused : (n : ℕ) (name : List ℕ) (at : ℕ) (s : List Lexeme) (stop : Stop) (left : List Lexeme)
    → Reads {A = Unit {0}} (read (skipped_statement n) s) (Err stop) left →
    Reads {A = Item} (read (statement n name at) s) (Err stop) left
refused n name at s (Refused k) left h =
    error_of (read (statement n name at) s) (k, left) (forgets_after_name n (body n) (skipped_body n) (forgets_body n) name at s
    ∙ h)
refused n name at s Memory left h = tt
