-- Phrases that end with a token of their own end there, whatever follows.
use Rattle.std.proofs.Common.{◌≡◌, ℕ, zero, suc, Bool, true, false, List, [], ◌∷◌, ◌++◌, Option, Ok, Err, inl, inr, refl, sym, ap}
use Rattle.std.proofs.Common.{subst, ◌∙◌}
use Rattle.grammar_rules.specs.Rule.{Rule, Verdict, Fits, Foul, Misfit, Stops}
use Rattle.grammar_rules.specs.Rule as r
use Rattle.grammar_rules.specs.Reading.{Outcome, judge, read}
use Rattle.grammar_rules.proofs.Steps.{value_is, rest_is, ok_pair, judge_ok, choose_ok, choose_fits, choose_stops, and_then_ok}
use Rattle.grammar_rules.proofs.Steps.{and_then_at}
use Rattle.grammar_rules.proofs.Local.{LeavesSome, extended, local}
use Rattle.liberty_groups.specs.declared.fault.Expected.TheVariants as expected
use Rattle.liberty_groups.specs.declared.fault.Refusal.{Refusal}
use Rattle.liberty_groups.specs.declared.fault.Refusal.TheVariants.{Syntax, NotLibrary}
use Rattle.liberty_groups.specs.declared.reader.Mark.TheVariants as mark
use Rattle.liberty_groups.specs.declared.tree.Value.{Value}
use Rattle.liberty_groups.specs.declared.tree.Item.{Item}
use Rattle.liberty_groups.specs.declared.tree.Item.TheVariants as item
use Rattle.liberty_groups.specs.declared.tree.Item.TheViews.{outs-Simple, outs-Complex}
use Rattle.liberty_groups.specs.Lexeme.{Lexeme}
use Rattle.liberty_groups.specs.Grammar.{◌>>=◌, only_mark, expect, arguments, value, colon, simple, some_statements, opens}
use Rattle.liberty_groups.specs.Grammar.{group_of, complex_or_group, bracketed, after_name, body, statement}
use Rattle.liberty_groups.specs.Library.{library_name, header}
use Rattle.liberty_groups.proofs.Pieces.{head_same, tail_same}
use Rattle.cell_cursor.specs.Items.{is_group, is_group_by}

-- a phrase whose value passes the test is the same whatever follows
abbrev pub Closed : {K A : Type 0} → (A → Bool) → Rule Lexeme K A → Type 0
Closed {K} {A} P p = (s : List Lexeme) (a : A) (r more : List Lexeme) → read p s ≡ Ok (a, r) → P a ≡ true
    → read p (s ++ more) ≡ Ok (a, r ++ more)

abbrev pub any : {A : Type 0} → A → Bool
any a = true

-- what is read with tokens left is read so whatever follows
pub reads_on : {K A : Type 0} (p : Rule Lexeme K A) (s : List Lexeme) (a : A) (x : Lexeme) (r more : List Lexeme)
    → read p s ≡ Ok (a, x ∷ r) → read p (s ++ more) ≡ Ok (a, (x ∷ r) ++ more)
reads_on {K} {A} p s a x r more e = local p s more (subst (λ (o : Outcome Lexeme K A). LeavesSome o) (sym e) tt)
    ∙ ap (extended more) e

-- what is refused at a token is refused so whatever follows
pub refuses_on : {K A : Type 0} (p : Rule Lexeme K A) (s : List Lexeme) (k : K) (x : Lexeme) (r more : List Lexeme)
    → read p s ≡ Err (k, x ∷ r) → read p (s ++ more) ≡ Err (k, (x ∷ r) ++ more)
refuses_on {K} {A} p s k x r more e = local p s more (subst (λ (o : Outcome Lexeme K A). LeavesSome o) (sym e) tt)
    ∙ ap (extended more) e

closed_gives : {K A : Type 0} (P : A → Bool) (b : A) → Closed {K = K} P (r.Gives b)
closed_gives P b s a q more e h = ok_pair (value_is e) (ap (λ (t : List Lexeme). t ++ more) (rest_is e))

closed_token : {K A : Type 0} (P : A → Bool) (f : Lexeme → Verdict A K) (k : K) → Closed P (r.Token f k)
closed_token P f k [] a q more e h = absurd cc
closed_token {K} {A} P f k (x ∷ s) a q more e h =
    let t = judge_ok (f x) (λ b. Ok (b, s)) (λ j. (j, x ∷ s)) (a, q) e in
    ap (λ (v : Verdict A K). judge v (λ b. Ok (b, s ++ more)) (λ j. Err (j, x ∷ (s ++ more)))) t.1
    ∙ ok_pair (value_is t.2) (ap (λ (t : List Lexeme). t ++ more) (rest_is t.2))

closed_then : {K A B : Type 0} (P : B → Bool) (p : Rule Lexeme K A) (g : A → Rule Lexeme K B) → Closed any p
    → ((a : A) → Closed P (g a)) → Closed P (r.Then p g)
closed_then P p g c d s b q more e h =
    let t = and_then_ok (read p s) (λ a m. read (g a) m) (b, q) e in
    and_then_at (read p (s ++ more)) (λ a m. read (g a) m) t.0 (t.1 ++ more) (c s t.0 t.1 more t.2 refl)
    ∙ d t.0 t.1 b q more t.3 h

-- a part, and then one that takes a token of its own
closed_after : {K A B : Type 0} (P : B → Bool) (p : Rule Lexeme K A) (g : A → Rule Lexeme K B) → ((a : A) → Closed P (g a)) →
    ((a : A) (b : B) (q : List Lexeme) → read (g a) [] ≡ Ok (b, q) → P b ≡ true → ⊥) → Closed P (r.Then p g)
closed_after {K} {A} {B} P p g d none s b q more e h =
    let t = and_then_ok (read p s) (λ a m. read (g a) m) (b, q) e in
    go t.0 t.1 t.2 t.3
  where
    go : (a : A) (m : List Lexeme) → read p s ≡ Ok (a, m) → read (g a) m ≡ Ok (b, q)
        → read (r.Then p g) (s ++ more) ≡ Ok (b, q ++ more)
    go a [] i j = absurd (none a b q j h)
    go a (x ∷ m) i j =
        and_then_at (read p (s ++ more)) (λ a m. read (g a) m) a ((x ∷ m) ++ more) (reads_on p s a x m more i)
        ∙ d a (x ∷ m) b q more j h

closed_choice : {K A B : Type 0} (P : B → Bool) (f : Lexeme → Option (Verdict A K)) (g : A
    → Rule Lexeme K B) (p : Rule Lexeme K B) → ((a : A) → Closed P (g a)) → Closed P p →
    ((b : B) (q : List Lexeme) → read p [] ≡ Ok (b, q) → P b ≡ true → ⊥) → Closed P (r.Choice f g p)
closed_choice P f g p d c none [] b q more e h = absurd (none b q e h)
closed_choice P f g p d c none (x ∷ m) b q more e h =
    elim (choose_ok f (x ∷ m) (λ a t. read (g a) t) (read p (x ∷ m)) (b, q) e) [
      | inl (y, a, t, is, fits, i) ↦
          (choose_fits f x (m ++ more) a (λ a t. read (g a) t) (read p (x ∷ (m ++ more))) (ap f (head_same is) ∙ fits)
          ∙ d a m b q more (ap (read (g a)) (tail_same is) ∙ i) h)
      | inr i ↦ (choose_stops f (x ∷ (m ++ more)) (λ a t. read (g a) t) (read p (x ∷ (m ++ more))) i.0 ∙ c (x ∷ m) b q more i.1 h)
    ]

pub closed_header : Closed any header
unfolding header
closed_header =
    closed_then any (r.Token library_name NotLibrary)
    (λ _. expect mark.Open (Syntax expected.Opening) >>= λ _. arguments >>= λ _. expect mark.Begin (Syntax expected.Opening))
    (closed_token any library_name NotLibrary)
    (λ _. closed_then any (expect mark.Open (Syntax expected.Opening))
    (λ _. arguments >>= λ _. expect mark.Begin (Syntax expected.Opening))
    (closed_token any (only_mark mark.Open (Syntax expected.Opening)) (Syntax expected.Opening))
    (λ _. closed_after any arguments (λ _. expect mark.Begin (Syntax expected.Opening))
    (λ _. closed_token any (only_mark mark.Begin (Syntax expected.Opening)) (Syntax expected.Opening))
    (λ a b q e h. absurd cc)))

pub closed_mark : Closed {K = Refusal} any (expect mark.End (Syntax expected.Statement))
closed_mark = closed_token any (only_mark mark.End (Syntax expected.Statement)) (Syntax expected.Statement)

-- "}", and then nothing but a value
closed_end : {A : Type 0} (P : A → Bool) (a : A) → Closed P (expect mark.End (Syntax expected.Statement) >>= λ _. r.Gives a)
closed_end P a =
    closed_then P (expect mark.End (Syntax expected.Statement)) (λ _. r.Gives a)
    (closed_token any (only_mark mark.End (Syntax expected.Statement)) (Syntax expected.Statement)) (λ _. closed_gives P a)

closed_body : (levels : ℕ) → Closed any (body levels)
unfolding body
closed_body zero = closed_gives any []
closed_body (suc levels) =
    closed_after any (some_statements (after_name levels (body levels)) [])
    (λ items. expect mark.End (Syntax expected.Statement) >>= λ _. r.Gives items)
    (λ items. closed_end any items) (λ items b q e h. absurd cc)

pub no_group_simple : (name : List ℕ) (found : List Value) (at : ℕ) → is_group (item.Simple name found at) ≡ false
no_group_simple name found at = ap is_group_by (outs-Simple name found at)

pub no_group_complex : (name : List ℕ) (found : List Value) (at : ℕ) → is_group (item.Complex name found at) ≡ false
no_group_complex name found at = ap is_group_by (outs-Complex name found at)

no_group : (a b : Item) → is_group a ≡ false → a ≡ b → is_group b ≡ true → ⊥
no_group a b e f h = let g : false ≡ true = sym e ∙ ap is_group f ∙ h in absurd cc

closed_complex_or_group : (levels : ℕ) (name : List ℕ) (found : List Value) (at : ℕ)
    → Closed is_group (complex_or_group levels (body levels) name found at)
unfolding complex_or_group
closed_complex_or_group levels name found at =
    closed_choice is_group (opens levels) (λ _. body levels >>= λ items. r.Gives (group_of name found items at))
    (r.Gives (item.Complex name found at))
    (λ _. closed_then is_group (body levels) (λ items. r.Gives (group_of name found items at)) (closed_body levels)
    (λ items. closed_gives is_group (group_of name found items at)))
    (closed_gives is_group (item.Complex name found at))
    (λ b q e h. no_group (item.Complex name found at) b (no_group_complex name found at) (value_is e) h)

none_without_end : (levels : ℕ) (name : List ℕ) (found : List Value) (at : ℕ) (b : Item) (q : List Lexeme) →
    read (complex_or_group levels (body levels) name found at) [] ≡ Ok (b, q) → is_group b ≡ true → ⊥
unfolding complex_or_group
none_without_end levels name found at b q e h =
    no_group (item.Complex name found at) b (no_group_complex name found at) (value_is e) h

closed_bracketed : (levels : ℕ) (name : List ℕ) (at : ℕ) → Closed is_group (bracketed levels (body levels) name at)
unfolding bracketed
closed_bracketed levels name at =
    closed_then is_group (expect mark.Open (Syntax expected.AfterName))
    (λ _. arguments >>= λ found. complex_or_group levels (body levels) name found at)
    (closed_token any (only_mark mark.Open (Syntax expected.AfterName)) (Syntax expected.AfterName))
    (λ _. closed_after is_group arguments (λ found. complex_or_group levels (body levels) name found at)
    (λ found. closed_complex_or_group levels name found at)
    (λ found b q e h. none_without_end levels name found at b q e h))

closed_simple : (name : List ℕ) (at : ℕ) → Closed is_group (simple name at)
unfolding simple
closed_simple name at s b q more e h =
    let t = and_then_ok (read value s) (λ found m. read (r.Gives (item.Simple name found at)) m) (b, q) e in
    absurd (no_group (item.Simple name t.0 at) b (no_group_simple name t.0 at) (value_is t.3) h)

none_open : (levels : ℕ) (name : List ℕ) (at : ℕ) (b : Item) (q : List Lexeme)
    → read (bracketed levels (body levels) name at) [] ≡ Ok (b, q) → ⊥
unfolding bracketed
none_open levels name at b q e = absurd cc

pub closed_statement : (levels : ℕ) (name : List ℕ) (at : ℕ) → Closed is_group (statement levels name at)
closed_statement levels name at =
    closed_choice is_group colon (λ _. simple name at) (bracketed levels (body levels) name at)
    (λ _. closed_simple name at) (closed_bracketed levels name at) (λ b q e h. none_open levels name at b q e)
