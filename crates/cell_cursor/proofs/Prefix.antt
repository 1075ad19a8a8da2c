-- What was given before changes nothing in what a reading adds.
use Rattle.std.proofs.Common.{◌≡◌, ◌≢◌, ℕ, zero, suc, ◌≤◌, List, [], ◌∷◌, ◌++◌, length, Option, Some, None, Ok, Err, refl, sym}
use Rattle.std.proofs.Common.{ap, ◌∙◌, arith}
use Rattle.std.proofs.lemmas.List.{append-nil, append_assoc}
use Rattle.grammar_rules.specs.Rule.{Verdict, Fits, Foul, Misfit}
use Rattle.grammar_rules.specs.Reading.{Outcome, and_then, marked, judge_first, read}
use Rattle.grammar_rules.proofs.Exact.{parts_shrink, shrinks}
use Rattle.grammar_rules.proofs.Turns.{turns, unroll}
use Rattle.liberty_groups.specs.declared.fault.Expected.TheVariants as expected
use Rattle.liberty_groups.specs.declared.fault.Refusal.{Refusal}
use Rattle.liberty_groups.specs.declared.fault.Refusal.TheVariants.{Syntax}
use Rattle.liberty_groups.specs.declared.reader.Mark.TheVariants as mark
use Rattle.liberty_groups.specs.declared.reader.Start.{Start}
use Rattle.liberty_groups.specs.declared.reader.Start.TheVariants as start
use Rattle.liberty_groups.specs.declared.tree.Item.{Item}
use Rattle.liberty_groups.specs.Lexeme.{Lexeme}
use Rattle.liberty_groups.specs.Grammar.{expect, start_by, begun_by, starts, statement}
use Rattle.liberty_groups.specs.Library.{levels_inside, header}
use Rattle.cell_cursor.specs.declared.item.LibraryItem.{LibraryItem}
use Rattle.cell_cursor.specs.declared.part.Place.{Place}
use Rattle.cell_cursor.specs.declared.part.Place.TheVariants as place
use Rattle.cell_cursor.specs.Items.{given, item_statement, adding, statements_after, file_end, library_end, rest_inside, rest_at}
use Rattle.cell_cursor.specs.Items.{items_in}

abbrev pub Told : Type 0
Told = Outcome Lexeme (List LibraryItem × Refusal) (List LibraryItem)

-- the same, with these items before
abbrev pub prefixed : List LibraryItem → Told → Told
prefixed pre (Ok p) = Ok (pre ++ p.0, p.1)
prefixed pre (Err e) = Err ((pre ++ e.0.0, e.0.1), e.1)

abbrev go : List LibraryItem → Option Lexeme → List Lexeme → Told
go items a s = read (adding items a) s

by_outcome : (pre items : List LibraryItem) (o : Outcome Lexeme Refusal Item) →
    marked (λ k. (pre ++ items, k)) (and_then o (λ one m. Ok ((pre ++ items) ++ given one, m)))
    ≡ prefixed pre (marked (λ k. (items, k)) (and_then o (λ one m. Ok (items ++ given one, m))))
by_outcome pre items (Ok p) = ap (λ (l : List LibraryItem). Ok (l, p.1)) (append_assoc pre items (given p.0))
by_outcome pre items (Err e) = refl

statement_prefixed : (pre items : List LibraryItem) (name : List ℕ) (at : ℕ) (s : List Lexeme) →
    read (item_statement (pre ++ items) name at) s ≡ prefixed pre (read (item_statement items name at) s)
unfolding item_statement
statement_prefixed pre items name at s = by_outcome pre items (read (statement levels_inside name at) s)

adding_prefixed : (pre items : List LibraryItem) (a : Option Lexeme) (s : List Lexeme)
    → go (pre ++ items) a s ≡ prefixed pre (go items a s)
adding_prefixed pre items None s = refl
adding_prefixed pre items (Some x) s = statement_prefixed pre items x.bytes x.token.at s

then_prefixed : (pre : List LibraryItem) (o : Told) (g : List LibraryItem → List Lexeme → Told) →
    ((a : List LibraryItem) (m : List Lexeme) → o ≡ Ok (a, m) → g (pre ++ a) m ≡ prefixed pre (g a m))
    → and_then (prefixed pre o) g ≡ prefixed pre (and_then o g)
then_prefixed pre (Ok p) g h = h p.0 p.1 refl
then_prefixed pre (Err e) g h = refl

first_prefixed : (pre items : List LibraryItem) (v : Option (Verdict (Option Lexeme) (List LibraryItem × Refusal))) (x : Lexeme)
    (m : List Lexeme) (f g : Option Lexeme → Told) →
    ((k : List LibraryItem × Refusal) → v ≢ Some (Misfit k))
    → ((k : List LibraryItem × Refusal) (a : Option Lexeme) → v ≢ Some (Foul k a))
    → ((a : Option Lexeme) → f a ≡ prefixed pre (g a)) →
    judge_first v f (λ k. Err (k, x ∷ m)) (Ok (pre ++ items, x ∷ m)) ≡ prefixed pre
    (judge_first v g (λ k. Err (k, x ∷ m)) (Ok (items, x ∷ m)))
first_prefixed pre items None x m f g no_misfit no_foul h = refl
first_prefixed pre items (Some (Fits a)) x m f g no_misfit no_foul h = h a
first_prefixed pre items (Some (Foul k a)) x m f g no_misfit no_foul h = absurd (no_foul k a refl)
first_prefixed pre items (Some (Misfit k)) x m f g no_misfit no_foul h = absurd (no_misfit k refl)

pub begun_fits : {K : Type 0} (b : Start) (x : Lexeme) (k : K) → begun_by b x ≢ Some (Misfit k)
begun_fits start.Named x k e = absurd cc
begun_fits start.Empty x k e = absurd cc
begun_fits start.Other x k e = absurd cc

pub begun_good : {K : Type 0} (b : Start) (x : Lexeme) (k : K) (a : Option Lexeme) → begun_by b x ≢ Some (Foul k a)
begun_good start.Named x k a e = absurd cc
begun_good start.Empty x k a e = absurd cc
begun_good start.Other x k a e = absurd cc

turns_prefixed : (pre : List LibraryItem) (n : ℕ) (items : List LibraryItem) (s : List Lexeme) → length s ≤ n →
    turns (λ _. starts) go (pre ++ items) s ≡ prefixed pre (turns (λ _. starts) go items s)
turns_prefixed pre n items [] l = refl
turns_prefixed pre zero items (x ∷ s) l = absurd (omega arith)
turns_prefixed pre (suc n) items (x ∷ s) l =
    unroll (λ _. starts) go (parts_shrink adding) (pre ++ items) (x ∷ s)
    ∙ first_prefixed pre items (starts x) x s (λ a. and_then (go (pre ++ items) a s) (λ w q. turns (λ _. starts) go w q))
    (λ a. and_then (go items a s) (λ w q. turns (λ _. starts) go w q))
    (λ k. begun_fits (start_by x.token.kind) x k) (λ k a. begun_good (start_by x.token.kind) x k a)
    (λ a. ap (λ (o : Told). and_then o (λ w q. turns (λ _. starts) go w q)) (adding_prefixed pre items a s)
    ∙ then_prefixed pre (go items a s) (λ w q. turns (λ _. starts) go w q)
    (λ w q e. let k = shrinks (adding items a) s w q e in turns_prefixed pre n w q (omega arith)))
    ∙ ap (prefixed pre) (sym (unroll (λ _. starts) go (parts_shrink adding) items (x ∷ s)))

file_end_prefixed : (pre items : List LibraryItem) (s : List Lexeme)
    → read (file_end (pre ++ items)) s ≡ prefixed pre (read (file_end items) s)
file_end_prefixed pre items [] = refl
file_end_prefixed pre items (x ∷ s) = refl

end_by_outcome : (pre items : List LibraryItem) (o : Outcome Lexeme Refusal (Unit {0})) →
    and_then (marked (λ k. (pre ++ items, k)) o) (λ _ m. read (file_end (pre ++ items)) m) ≡ prefixed pre
    (and_then (marked (λ k. (items, k)) o) (λ _ m. read (file_end items) m))
end_by_outcome pre items (Ok p) = file_end_prefixed pre items p.1
end_by_outcome pre items (Err e) = refl

end_prefixed : (pre items : List LibraryItem) (s : List Lexeme)
    → read (library_end (pre ++ items)) s ≡ prefixed pre (read (library_end items) s)
unfolding library_end
end_prefixed pre items s = end_by_outcome pre items (read (expect mark.End (Syntax expected.Statement)) s)

inside_prefixed : (pre items : List LibraryItem) (s : List Lexeme)
    → read (rest_inside (pre ++ items)) s ≡ prefixed pre (read (rest_inside items) s)
unfolding rest_inside
inside_prefixed pre items s =
    ap (λ (o : Told). and_then o (λ a m. read (library_end a) m)) (turns_prefixed pre (length s) items s (omega arith))
    ∙ then_prefixed pre (read (statements_after items) s) (λ a m. read (library_end a) m) (λ a m e. end_prefixed pre a m)

start_prefixed : (pre items : List LibraryItem) (o : Outcome Lexeme Refusal (Unit {0})) →
    and_then (marked (λ k. (pre ++ items, k)) o) (λ _ m. read (rest_inside (pre ++ items)) m) ≡ prefixed pre
    (and_then (marked (λ k. (items, k)) o) (λ _ m. read (rest_inside items) m))
start_prefixed pre items (Ok p) = inside_prefixed pre items p.1
start_prefixed pre items (Err e) = refl

pub rest_prefixed : (here : Place) (pre items : List LibraryItem) (s : List Lexeme)
    → read (rest_at here (pre ++ items)) s ≡ prefixed pre (read (rest_at here items) s)
rest_prefixed place.Start pre items s = start_prefixed pre items (read header s)
rest_prefixed place.Inside pre items s = inside_prefixed pre items s
rest_prefixed place.Behind pre items s = file_end_prefixed pre items s

-- what is given is the front of what a reading gives
pub rest_behind : (here : Place) (pre : List LibraryItem) (s : List Lexeme)
    → read (rest_at here pre) s ≡ prefixed pre (read (rest_at here []) s)
rest_behind here pre s = ap (λ (l : List LibraryItem). read (rest_at here l) s) (sym (append-nil pre))
    ∙ rest_prefixed here pre [] s

pub items_prefixed : (pre : List LibraryItem) (o : Told) → items_in (prefixed pre o) ≡ pre ++ items_in o
items_prefixed pre (Ok p) = refl
items_prefixed pre (Err e) = refl
