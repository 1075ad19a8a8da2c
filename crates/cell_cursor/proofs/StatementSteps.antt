-- One statement of the library after another.
use Rattle.std.proofs.Common.{◌≡◌, ℕ, ◌+◌, ◌≤◌, Bool, true, List, [], ◌∷◌, ◌++◌, length, Option, Some, None, Ok, Err, refl, sym}
use Rattle.std.proofs.Common.{ap, subst, ◌∙◌, arith}
use Rattle.std.proofs.lemmas.List.{append-nil}
use Rattle.grammar_rules.specs.Reading.{Outcome, and_then, read}
use Rattle.grammar_rules.proofs.Steps.{choose_fits, and_then_fails, rest_of}
use Rattle.grammar_rules.proofs.Places.{Suffix, suffix, suffix_trans}
use Rattle.grammar_rules.proofs.Exact.{parts_shrink, shrinks}
use Rattle.grammar_rules.proofs.Turns.{turns, unroll, turn, ends}
use Rattle.liberty_groups.specs.declared.fault.Refusal.{Refusal}
use Rattle.liberty_groups.specs.declared.fault.Stop.{Stop}
use Rattle.liberty_groups.specs.declared.fault.Stop.TheVariants.{Refused, Memory}
use Rattle.liberty_groups.specs.declared.reader.Start.TheVariants as start
use Rattle.liberty_groups.specs.declared.tree.Item.{Item}
use Rattle.liberty_groups.specs.Lexeme.{Lexeme, next_bytes, rest}
use Rattle.liberty_groups.specs.Grammar.{starts, next_start, next_at, statement}
use Rattle.liberty_groups.specs.Library.{levels_inside}
use Rattle.cell_cursor.specs.declared.item.LibraryItem.{LibraryItem}
use Rattle.cell_cursor.specs.Items.{Adds, given, has_ended, item_statement, adding, statements_after}
use Rattle.cell_cursor.specs.Reached.{ReadsOn}
use Rattle.cell_cursor.proofs.Closed.{reads_on, closed_statement}
use Rattle.cell_cursor.proofs.Prefix.{Told}

pub statement_read : (items : List LibraryItem) (name : List ℕ) (at : ℕ) (s : List Lexeme) (one : Item) (left : List Lexeme) →
    read (statement levels_inside name at) s ≡ Ok (one, left)
    → read (item_statement items name at) s ≡ Ok (items ++ given one, left)
unfolding item_statement
statement_read items name at s one left e = rw e refl

ended_on : (name : List ℕ) (at : ℕ) (s : List Lexeme) (one : Item) (left more : List Lexeme) →
    read (statement levels_inside name at) s ≡ Ok (one, left) → has_ended one left ≡ true
    → read (statement levels_inside name at) (s ++ more) ≡ Ok (one, left ++ more)
ended_on name at s one [] more e h = closed_statement levels_inside name at s one [] more e h
ended_on name at s one (x ∷ left) more e h = reads_on (statement levels_inside name at) s one x left more e

-- a statement that has ended is the same whatever follows
pub statement_ended : (items : List LibraryItem) (name : List ℕ) (at : ℕ) (s : List Lexeme) (one : Item) (left more : List Lexeme)
    →
    read (statement levels_inside name at) s ≡ Ok (one, left) → has_ended one left ≡ true
    → read (item_statement items name at) (s ++ more) ≡ Ok (items ++ given one, left ++ more)
statement_ended items name at s one left more e h =
    statement_read items name at (s ++ more) one (left ++ more) (ended_on name at s one left more e h)

abbrev go : List LibraryItem → Option Lexeme → List Lexeme → Outcome Lexeme (List LibraryItem × Refusal) (List LibraryItem)
go items a s = read (adding items a) s

pub empty_step : (items : List LibraryItem) (s more : List Lexeme) → next_start s ≡ start.Empty →
    read (statements_after items) (s ++ more) ≡ read (statements_after items) (rest s ++ more)
empty_step items [] more e = absurd cc
empty_step items (x ∷ s) more e =
    turn (λ _. starts) go (parts_shrink adding) items x None (s ++ more) items (s ++ more) (rw e refl) refl

pub named_step : (items all : List LibraryItem) (s left more : List Lexeme) → next_start s ≡ start.Named →
    read (item_statement items (next_bytes s) (next_at s)) (rest s ++ more) ≡ Ok (all, left ++ more) →
    read (statements_after items) (s ++ more) ≡ read (statements_after all) (left ++ more)
named_step items all [] left more e h = absurd cc
named_step items all (x ∷ s) left more e h =
    turn (λ _. starts) go (parts_shrink adding) items x (Some x) (s ++ more) all (left ++ more) (rw e refl) h

pub failed_step : (items : List LibraryItem) (s : List Lexeme) (k : List LibraryItem × Refusal) (left : List Lexeme)
    → next_start s ≡ start.Named →
    read (item_statement items (next_bytes s) (next_at s)) (rest s) ≡ Err (k, left)
    → read (statements_after items) s ≡ Err (k, left)
failed_step items [] k left e h = absurd cc
failed_step items (x ∷ s) k left e h =
    unroll (λ _. starts) go (parts_shrink adding) items (x ∷ s)
    ∙ choose_fits starts x s (Some x) (λ a m. and_then (go items a m) (λ w q. turns (λ _. starts) go w q)) (Ok (items, x ∷ s))
    (rw e refl)
    ∙ and_then_fails (go items (Some x) s) (λ w q. turns (λ _. starts) go w q) (k, left) h

pub last_step : (items : List LibraryItem) (s : List Lexeme) → next_start s ≡ start.Other
    → read (statements_after items) s ≡ Ok (items, s)
last_step items [] e = refl
last_step items (x ∷ s) e = ends (λ _. starts) go (parts_shrink adding) items (x ∷ s) (rw e refl)

pub went_now : (items all : List LibraryItem) (s left : List Lexeme) → ReadsOn items s all left
    → read (statements_after items) s ≡ read (statements_after all) left
went_now items all s left h =
    ap (read (statements_after items)) (sym (append-nil s)) ∙ h [] ∙ ap (read (statements_after all)) (append-nil left)

pub went_empty : (items all : List LibraryItem) (s left : List Lexeme) → ReadsOn items s all left → next_start left ≡ start.Empty
    → ReadsOn items s all (rest left)
went_empty items all s left h e more = h more ∙ empty_step all left more e

pub went_named : (items all more_items : List LibraryItem) (s left next : List Lexeme) → ReadsOn items s all left
    → next_start left ≡ start.Named →
    ((more : List Lexeme) → read (item_statement all (next_bytes left) (next_at left)) (rest left ++ more) ≡ Ok
    (more_items, next ++ more)) → ReadsOn items s more_items next
went_named items all more_items s left next h e one more = h more ∙ named_step all more_items left next more e (one more)

-- the last statement was read, and may go on
pub went_last : (items all more_items : List LibraryItem) (s left next : List Lexeme) → ReadsOn items s all left
    → next_start left ≡ start.Named →
    read (item_statement all (next_bytes left) (next_at left)) (rest left) ≡ Ok (more_items, next)
    → read (statements_after items) s ≡ read (statements_after more_items) next
went_last items all more_items s left next h e one =
    went_now items all s left h
    ∙ ap (read (statements_after all)) (sym (append-nil left))
    ∙ named_step all more_items left next [] e
    (ap (read (item_statement all (next_bytes left) (next_at left))) (append-nil (rest left)) ∙ one
    ∙ ap (λ (t : List Lexeme). Ok (more_items, t)) (sym (append-nil next)))
    ∙ ap (read (statements_after more_items)) (append-nil next)

pub went_failed : (items all : List LibraryItem) (s left : List Lexeme) (k : List LibraryItem × Refusal) (place : List Lexeme)
    → ReadsOn items s all left → next_start left ≡ start.Named →
    read (item_statement all (next_bytes left) (next_at left)) (rest left) ≡ Err (k, place)
    → read (statements_after items) s ≡ Err (k, place)
went_failed items all s left k place h e one = went_now items all s left h ∙ failed_step all left k place e one

pub went_other : (items all : List LibraryItem) (s left : List Lexeme) → ReadsOn items s all left → next_start left ≡ start.Other
    → read (statements_after items) s ≡ Ok (all, left)
went_other items all s left h e = went_now items all s left h ∙ last_step all left e

pub went_through : (items all : List LibraryItem) (s left : List Lexeme) → ReadsOn items s all left → length left ≤ 0
    → read (statements_after items) s ≡ Ok (all, left)
went_through items all s [] h e = went_now items all s [] h
went_through items all s (x ∷ left) h e = absurd (omega arith)

-- a statement takes its name at least
pub rest_shorter : (items more_items : List LibraryItem) (s next : List Lexeme) → next_start s ≡ start.Named →
    read (item_statement items (next_bytes s) (next_at s)) (rest s) ≡ Ok (more_items, next) → length next + 1 ≤ length s
rest_shorter items more_items [] next e h = absurd cc
rest_shorter items more_items (x ∷ s) next e h = let k = shrinks (item_statement items x.bytes x.token.at) s more_items next h
    in omega arith

-- as found by the code
pub statement_ended_as : (items all : List LibraryItem) (s r : List Lexeme) (name : List ℕ) (at : ℕ) (one : Item)
    (left more : List Lexeme) →
    ◌≡◌ {A = List ℕ × ℕ} (name, at) (next_bytes s, next_at s) → r ≡ rest s
    → read (statement levels_inside name at) r ≡ Ok (one, left) → has_ended one left ≡ true → all ≡ items ++ given one →
    read (item_statement items (next_bytes s) (next_at s)) (rest s ++ more) ≡ Ok (all, left ++ more)
statement_ended_as items all s r name at one left more e f h ended i =
    ap (λ (p : List ℕ × ℕ). read (item_statement items p.0 p.1) (rest s ++ more)) (sym e)
    ∙ ap (λ (t : List Lexeme). read (item_statement items name at) (t ++ more)) (sym f)
    ∙ statement_ended items name at r one left more h ended
    ∙ ap (λ (l : List LibraryItem). Ok (l, left ++ more)) (sym i)

pub went_open : (items all more_items : List LibraryItem) (s left next : List Lexeme) → ReadsOn items s all left
    → next_start left ≡ start.Named →
    read (item_statement all (next_bytes left) (next_at left)) (rest left) ≡ Ok (more_items, next) → next ≡ []
    → read (statements_after items) s ≡ Ok (more_items, next)
went_open items all more_items s left next h e one none =
    went_last items all more_items s left next h e one ∙ ap (read (statements_after more_items)) none
    ∙ ap (λ (t : List Lexeme). Ok (more_items, t)) (sym none)

pub failed_adds : (items all : List LibraryItem) (s left : List Lexeme) (e : Stop) (more_items : List LibraryItem)
    (place : List Lexeme) → ReadsOn items s all left → next_start left ≡ start.Named →
    Adds {T = Bool} (read (item_statement all (next_bytes left) (next_at left)) (rest left)) (Err e) more_items place
    → Adds {T = Bool} (read (statements_after items) s) (Err e) more_items place
failed_adds items all s left (Refused k) more_items place h e one = went_failed items all s left (more_items, k) place h e one
failed_adds items all s left Memory more_items place h e one = tt

pub empty_turn_as : (items all all' : List LibraryItem) (s left left' : List Lexeme) → ReadsOn items s all left
    → next_start left ≡ start.Empty → left' ≡ rest left → all' ≡ all → ReadsOn items s all' left'
empty_turn_as items all all' s left left' h e f g more =
    went_empty items all s left h e more
    ∙ ap (λ (t : List Lexeme). read (statements_after all) (t ++ more)) (sym f)
    ∙ ap (λ (l : List LibraryItem). read (statements_after l) (left' ++ more)) (sym g)

pub named_turn_as : (items all more_items all' : List LibraryItem) (s left next left' : List Lexeme) → ReadsOn items s all left
    → next_start left ≡ start.Named →
    ((more : List Lexeme) → read (item_statement all (next_bytes left) (next_at left)) (rest left ++ more) ≡ Ok
    (more_items, next ++ more)) → left' ≡ next → all' ≡ more_items → ReadsOn items s all' left'
named_turn_as items all more_items all' s left next left' h e one f g more =
    went_named items all more_items s left next h e one more
    ∙ ap (λ (t : List Lexeme). read (statements_after more_items) (t ++ more)) (sym f)
    ∙ ap (λ (l : List LibraryItem). read (statements_after l) (left' ++ more)) (sym g)

pub empty_less : (left left' : List Lexeme) → next_start left ≡ start.Empty → left' ≡ rest left → length left' + 1 ≤ length left
empty_less [] left' e f = absurd cc
empty_less (x ∷ left) left' e f = let k = ap length f in omega (arith, k)

-- what a turn leaves is the end of what it began with

rest_ends : (s left : List Lexeme) → Suffix s left → Suffix s (rest left)
rest_ends s [] h = h
rest_ends s (x ∷ left) h = suffix_trans s (x ∷ left) left h (x ∷ [], refl)

pub empty_ends : (s left left' : List Lexeme) → Suffix s left → left' ≡ rest left → Suffix s left'
empty_ends s left left' h e = subst (λ (l : List Lexeme). Suffix s l) (sym e) (rest_ends s left h)

pub named_ends : (all more_items : List LibraryItem) (s left next left' : List Lexeme) → Suffix s left →
    ((more : List Lexeme) → read (item_statement all (next_bytes left) (next_at left)) (rest left ++ more) ≡ Ok
    (more_items, next ++ more)) → left' ≡ next → Suffix s left'
named_ends all more_items s left next left' h one e =
    let now : read (item_statement all (next_bytes left) (next_at left)) (rest left) ≡ Ok (more_items, next) =
    ap (read (item_statement all (next_bytes left) (next_at left))) (sym (append-nil (rest left))) ∙ one []
    ∙ ap (λ (t : List Lexeme). Ok (more_items, t)) (append-nil next) in
    let i : Suffix (rest left) next =
    subst (λ (o : Told). Suffix (rest left) (rest_of o)) now
    (suffix (item_statement all (next_bytes left) (next_at left)) (rest left)) in
    subst (λ (l : List Lexeme). Suffix s l) (sym e) (suffix_trans s (rest left) next (rest_ends s left h) i)
