-- The items in order, and the four lists of a reading: what is read is the same.
use Rattle.std.proofs.Common.{◌≡◌, ℕ, zero, suc, ◌≤◌, Bool, true, false, List, [], ◌∷◌, ◌++◌, length, Option, Some, None, Ok, Err}
use Rattle.std.proofs.Common.{cond, codes, refl, sym, ap, ◌∙◌, arith}
use Rattle.std.specs.Str.{bytes_eq}
use Rattle.grammar_rules.specs.Rule.{Rule, Verdict, Fits, Foul, Misfit}
use Rattle.grammar_rules.specs.Rule as r
use Rattle.grammar_rules.specs.Reading.{Outcome, and_then, marked, judge_first, read}
use Rattle.grammar_rules.proofs.Exact.{parts_shrink, shrinks}
use Rattle.grammar_rules.proofs.Turns.{turns, unroll}
use Rattle.liberty_text.specs.Scanner.{scan_of}
use Rattle.liberty_groups.specs.declared.fault.Expected.TheVariants as expected
use Rattle.liberty_groups.specs.declared.fault.Refusal.{Refusal}
use Rattle.liberty_groups.specs.declared.fault.Refusal.TheVariants.{Syntax}
use Rattle.liberty_groups.specs.declared.reader.Mark.TheVariants as mark
use Rattle.liberty_groups.specs.declared.reader.Start.{Start}
use Rattle.liberty_groups.specs.declared.reader.Start.TheVariants as start
use Rattle.liberty_groups.specs.declared.tree.Value.{Value}
use Rattle.liberty_groups.specs.declared.tree.Item.{Item, out-Item}
use Rattle.liberty_groups.specs.declared.tree.Item.TheOpen.{Item-F}
use Rattle.liberty_groups.specs.declared.tree.Group.{Group, out-Group}
use Rattle.liberty_groups.specs.Lexeme.{Lexeme, lexemes_of}
use Rattle.liberty_groups.specs.Grammar.{◌>>=◌, expect, start_by, begun_by, starts, statement}
use Rattle.liberty_groups.specs.Library.{Found, nothing_found, with_cell, with_type, with_unit, with_left_out, with_named}
use Rattle.liberty_groups.specs.Library.{with_group, one_text, counted_by, counted, levels_inside, header, counted_statement}
use Rattle.liberty_groups.specs.Library.{counting, contents, rest_of_library, library}
use Rattle.liberty_groups.specs.Library as lib
use Rattle.liberty_groups.specs.Answer.{found_in, halt_of, outcome_of}
use Rattle.cell_cursor.specs.declared.item.LibraryItem.{LibraryItem}
use Rattle.cell_cursor.specs.declared.item.LibraryItem.TheVariants as item
use Rattle.cell_cursor.specs.declared.part.Place.TheVariants as place
use Rattle.cell_cursor.specs.Items.{named_item, group_item, given_by, given, item_statement, adding, statements_after, file_end}
use Rattle.cell_cursor.specs.Items.{library_end, rest_inside, rest_at, items_in, items_outcome, with_item, gathered}
use Rattle.cell_cursor.specs.Finish.{halt_in}
use Rattle.cell_cursor.proofs.Prefix.{Told}

abbrev pub Lists : Type 0
Lists = Outcome Lexeme (Found × Refusal) Found

-- the same, as four lists
abbrev pub listed : Told → Lists
listed (Ok p) = Ok (gathered nothing_found p.0, p.1)
listed (Err e) = Err ((gathered nothing_found e.0.0, e.0.1), e.1)

pub gathered-append : (f : Found) (xs ys : List LibraryItem) → gathered f (xs ++ ys) ≡ gathered (gathered f xs) ys
gathered-append f [] ys = refl
gathered-append f (x ∷ xs) ys = gathered-append (with_item f x) xs ys

named_same : (f : Found) (x : Bool) (at : ℕ) → cond x (with_left_out at f) f ≡ gathered f (cond x (item.LeftOut at ∷ []) [])
named_same f true at = refl
named_same f false at = refl

unit_same : (f : Found) (x : Bool) (name : List ℕ) (value : List Value) (at : ℕ) →
    cond x (with_unit value at f) (with_named name at f) ≡ gathered f
    (cond x (item.Unit (record { value = one_text value; at = at }) ∷ []) (named_item name at))
unit_same f true name value at = refl
unit_same f false name value at = named_same f (bytes_eq name (codes "include_file")) at

group_same_by : (f : Found) (is_cell is_type is_left_out : Bool) (group : Group) →
    cond is_cell (with_cell group f)
    (cond is_type (with_type group f) (cond is_left_out (with_left_out (out-Group group).at f) f))
    ≡ gathered f (cond is_cell (item.Cell group ∷ [])
    (cond is_type (item.BusType group ∷ []) (cond is_left_out (item.LeftOut (out-Group group).at ∷ []) [])))
group_same_by f true is_type is_left_out group = refl
group_same_by f false true is_left_out group = refl
group_same_by f false false is_left_out group = named_same f is_left_out (out-Group group).at

group_same : (f : Found) (group : Group) → with_group group f ≡ gathered f (group_item group)
group_same f group =
    let name = (out-Group group).name in
    group_same_by f (bytes_eq name (codes "cell")) (bytes_eq name (codes "type")) (bytes_eq name (codes "include_file")) group

counted_same_by : (f : Found) (one : Item-F Item Group) → counted_by f one ≡ gathered f (given_by one)
counted_same_by f (Item-F.Simple name value at) = unit_same f (bytes_eq name (codes "time_unit")) name value at
counted_same_by f (Item-F.Complex name _ at) = named_same f (bytes_eq name (codes "include_file")) at
counted_same_by f (Item-F.Inner group) = group_same f group

counted_same : (f : Found) (one : Item) → counted f one ≡ gathered f (given one)
unfolding counted given
counted_same f one = counted_same_by f (out-Item one)

counted_more : (items : List LibraryItem) (one : Item)
    → counted (gathered nothing_found items) one ≡ gathered nothing_found (items ++ given one)
counted_more items one = counted_same (gathered nothing_found items) one ∙ sym (gathered-append nothing_found items (given one))

abbrev go : List LibraryItem → Option Lexeme → List Lexeme → Told
go items a s = read (adding items a) s

abbrev go_on : Found → Option Lexeme → List Lexeme → Lists
go_on found a s = read (counting found a) s

by_outcome : (items : List LibraryItem) (o : Outcome Lexeme Refusal Item) →
    marked (λ k. (gathered nothing_found items, k)) (and_then o (λ one m. Ok (counted (gathered nothing_found items) one, m)))
    ≡ listed (marked (λ k. (items, k)) (and_then o (λ one m. Ok (items ++ given one, m))))
by_outcome items (Ok p) = ap (λ (f : Found). Ok (f, p.1)) (counted_more items p.0)
by_outcome items (Err e) = refl

statement_listed : (items : List LibraryItem) (name : List ℕ) (at : ℕ) (s : List Lexeme) →
    read (counted_statement (gathered nothing_found items) name at) s ≡ listed (read (item_statement items name at) s)
unfolding counted_statement item_statement
statement_listed items name at s = by_outcome items (read (statement levels_inside name at) s)

adding_listed : (items : List LibraryItem) (a : Option Lexeme) (s : List Lexeme)
    → go_on (gathered nothing_found items) a s ≡ listed (go items a s)
adding_listed items None s = refl
adding_listed items (Some x) s = statement_listed items x.bytes x.token.at s

then_listed : (o : Told) (f : Found → List Lexeme → Lists) (g : List LibraryItem → List Lexeme → Told) →
    ((a : List LibraryItem) (m : List Lexeme) → o ≡ Ok (a, m) → f (gathered nothing_found a) m ≡ listed (g a m))
    → and_then (listed o) f ≡ listed (and_then o g)
then_listed (Ok p) f g h = h p.0 p.1 refl
then_listed (Err e) f g h = refl

first_listed : (items : List LibraryItem) (b : Start) (x : Lexeme) (m : List Lexeme) (f : Option Lexeme
    → Lists) (g : Option Lexeme → Told) →
    ((a : Option Lexeme) → f a ≡ listed (g a)) →
    judge_first (begun_by b x) f (λ k. Err (k, x ∷ m)) (Ok (gathered nothing_found items, x ∷ m)) ≡ listed
    (judge_first (begun_by b x) g (λ k. Err (k, x ∷ m)) (Ok (items, x ∷ m)))
first_listed items start.Named x m f g h = h (Some x)
first_listed items start.Empty x m f g h = h None
first_listed items start.Other x m f g h = refl

turns_listed : (n : ℕ) (items : List LibraryItem) (s : List Lexeme) → length s ≤ n →
    turns (λ _. starts) go_on (gathered nothing_found items) s ≡ listed (turns (λ _. starts) go items s)
turns_listed n items [] l = refl
turns_listed zero items (x ∷ s) l = absurd (omega arith)
turns_listed (suc n) items (x ∷ s) l =
    unroll (λ _. starts) go_on (parts_shrink counting) (gathered nothing_found items) (x ∷ s)
    ∙ first_listed items (start_by x.token.kind) x s
    (λ a. and_then (go_on (gathered nothing_found items) a s) (λ w q. turns (λ _. starts) go_on w q))
    (λ a. and_then (go items a s) (λ w q. turns (λ _. starts) go w q))
    (λ a. ap (λ (o : Lists). and_then o (λ w q. turns (λ _. starts) go_on w q)) (adding_listed items a s)
    ∙ then_listed (go items a s) (λ w q. turns (λ _. starts) go_on w q) (λ w q. turns (λ _. starts) go w q)
    (λ w q e. let k = shrinks (adding items a) s w q e in turns_listed n w q (omega arith)))
    ∙ ap listed (sym (unroll (λ _. starts) go (parts_shrink adding) items (x ∷ s)))

abbrev library_close : Found → List Lexeme → Lists
library_close found s = read (lib.telling found (expect mark.End (Syntax expected.Statement)) >>= λ _. r.Last
    (λ _. (found, Syntax expected.FileEnd)) found) s

last_listed : (items : List LibraryItem) (s : List Lexeme) →
    read (r.Last (λ _. (gathered nothing_found items, Syntax expected.FileEnd)) (gathered nothing_found items)) s ≡ listed
    (read (file_end items) s)
last_listed items [] = refl
last_listed items (x ∷ s) = refl

close_by_outcome : (items : List LibraryItem) (o : Outcome Lexeme Refusal (Unit {0})) →
    and_then (marked (λ k. (gathered nothing_found items, k)) o)
    (λ _ m. read (r.Last (λ _. (gathered nothing_found items, Syntax expected.FileEnd)) (gathered nothing_found items)) m)
    ≡ listed (and_then (marked (λ k. (items, k)) o) (λ _ m. read (file_end items) m))
close_by_outcome items (Ok p) = last_listed items p.1
close_by_outcome items (Err e) = refl

close_listed : (items : List LibraryItem) (s : List Lexeme)
    → library_close (gathered nothing_found items) s ≡ listed (read (library_end items) s)
unfolding library_end
close_listed items s = close_by_outcome items (read (expect mark.End (Syntax expected.Statement)) s)

inside_listed : (s : List Lexeme) → read rest_of_library s ≡ listed (read (rest_inside []) s)
unfolding rest_of_library rest_inside
inside_listed s =
    ap (λ (o : Lists). and_then o library_close) (turns_listed (length s) [] s (omega arith))
    ∙ then_listed (read (statements_after []) s) library_close (λ a m. read (library_end a) m) (λ a m e. close_listed a m)

start_listed : (o : Outcome Lexeme Refusal (Unit {0})) →
    and_then (marked (λ k. (nothing_found, k)) o) (λ _ m. read rest_of_library m) ≡ listed
    (and_then (marked (λ k. ([], k)) o) (λ _ m. read (rest_inside []) m))
start_listed (Ok p) = inside_listed p.1
start_listed (Err e) = refl

pub library_listed : (s : List Lexeme) → read library s ≡ listed (read (rest_at place.Start []) s)
unfolding library
library_listed s = start_listed (read header s)

pub outcome_listed : (bytes : List ℕ) → outcome_of bytes ≡ listed (items_outcome bytes)
unfolding outcome_of items_outcome
outcome_listed bytes = library_listed (lexemes_of bytes (scan_of bytes).0)

-- the two readings halt at one place
pub halt_listed : (len : ℕ) (is_only : Bool) (o : Told) → halt_of len is_only (listed o) ≡ halt_in len is_only o
halt_listed len is_only (Ok p) = refl
halt_listed len is_only (Err e) = refl

pub found_listed : (o : Told) → found_in (listed o) ≡ gathered nothing_found (items_in o)
found_listed (Ok p) = refl
found_listed (Err e) = refl
