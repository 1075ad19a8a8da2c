-- A part without an outer brace gives no cell.
use Rattle.std.proofs.Common.{◌≡◌, ◌≢◌, ℕ, zero, suc, ◌≤◌, ◌||◌, Bool, true, false, List, [], ◌∷◌, ◌++◌, length, Option, Some}
use Rattle.std.proofs.Common.{None, Ok, Err, refl, sym, ap, subst, ◌∙◌, arith}
use Rattle.std.proofs.lemmas.List.{append-nil, append_assoc}
use Rattle.grammar_rules.specs.Rule.{Verdict, Fits, Foul, Misfit}
use Rattle.grammar_rules.specs.Reading.{Outcome, and_then, marked, judge_first, read}
use Rattle.grammar_rules.proofs.Steps.{rest_of}
use Rattle.grammar_rules.proofs.Exact.{parts_shrink, shrinks}
use Rattle.grammar_rules.proofs.Turns.{turns, unroll}
use Rattle.liberty_text.specs.declared.token.TokenKind.{TokenKind}
use Rattle.liberty_groups.specs.declared.fault.Expected.TheVariants as expected
use Rattle.liberty_groups.specs.declared.fault.Refusal.{Refusal}
use Rattle.liberty_groups.specs.declared.fault.Refusal.TheVariants.{Syntax}
use Rattle.liberty_groups.specs.declared.reader.Mark.TheVariants as mark
use Rattle.liberty_groups.specs.declared.reader.Start.TheVariants as start
use Rattle.liberty_groups.specs.declared.tree.Item.{Item}
use Rattle.liberty_groups.specs.Lexeme.{Lexeme, next_bytes, rest}
use Rattle.liberty_groups.specs.Grammar.{expect, start_by, starts, next_start, next_at, statement}
use Rattle.liberty_groups.specs.Library.{levels_inside, header}
use Rattle.cell_cursor.specs.declared.item.LibraryItem.{LibraryItem}
use Rattle.cell_cursor.specs.declared.part.Place.{Place}
use Rattle.cell_cursor.specs.declared.part.Place.TheVariants as place
use Rattle.cell_cursor.specs.Braces.{depth_behind, depth_after, is_outer, shows, has_outer, LastIsNotOuter, lexeme_kinds}
use Rattle.cell_cursor.specs.Given.{up_to_last_cell}
use Rattle.cell_cursor.specs.Items.{given, is_group, item_statement, adding, statements_after, file_end, library_end, rest_inside}
use Rattle.cell_cursor.specs.Items.{rest_at, items_in}
use Rattle.cell_cursor.proofs.Depths.{IsPlain, plain_depth, plain_outer, left_false, right_false, depth_append, shows_append}
use Rattle.cell_cursor.proofs.Depths.{front_shows, none_is_not_outer}
use Rattle.cell_cursor.proofs.GroupWalks.{group_at, named_plain, empty_plain, start_plain, statement_walk, header_walk}
use Rattle.cell_cursor.proofs.LastCell.{no_cell_behind, no_group_no_cell}
use Rattle.cell_cursor.proofs.Prefix.{Told, begun_fits, begun_good}
use Rattle.cell_cursor.proofs.Walks.{Walk}

-- no cell was given, or had been when a reading stopped
abbrev pub NoCell : Told → Type 0
NoCell o = up_to_last_cell (items_in o) ≡ []

-- among statements no outer brace stands in these tokens
abbrev pub IsOpen : List Lexeme → Type 0
IsOpen s = has_outer place.Inside (lexeme_kinds s) ≡ false

plain_open : (x : Lexeme) (s : List Lexeme) → IsPlain x.token.kind → IsOpen (x ∷ s) → IsOpen s
plain_open x s p h =
    ap (λ (d : ℕ). shows (is_outer place.Inside) d (lexeme_kinds s)) (sym (plain_depth 0 x.token.kind p))
    ∙ right_false (is_outer place.Inside 0 x.token.kind)
    (shows (is_outer place.Inside) (depth_behind 0 x.token.kind) (lexeme_kinds s)) h

-- a statement in such tokens is no group, and none stands in the tokens behind it
statement_open : (s : List Lexeme) (one : Item) (left : List Lexeme)
    → Walk {K = Refusal} (is_outer place.Inside) 0 0 (group_at 0) s (Ok (one, left)) → IsOpen s →
    (is_group one ≡ false) × IsOpen left
statement_open s one left (used, split, depth, shown) h =
    let both : (shows (is_outer place.Inside) 0 used
    || shows (is_outer place.Inside) (depth_after 0 used) (lexeme_kinds left)) ≡ false =
    sym (shows_append (is_outer place.Inside) 0 used (lexeme_kinds left)) ∙ ap (shows (is_outer place.Inside) 0) (sym split) ∙ h
    in (
      sym shown ∙ left_false (shows (is_outer place.Inside) 0 used)
          (shows (is_outer place.Inside) (depth_after 0 used) (lexeme_kinds left)) both,
      ap (λ (d : ℕ). shows (is_outer place.Inside) d (lexeme_kinds left)) (sym depth)
          ∙ right_false (shows (is_outer place.Inside) 0 used)
          (shows (is_outer place.Inside) (depth_after 0 used) (lexeme_kinds left)) both,
    )

abbrev go : List LibraryItem → Option Lexeme → List Lexeme → Told
go items a s = read (adding items a) s

-- no cell was given, and the tokens left have no outer brace
abbrev StaysOpen : Told → Type 0
StaysOpen (Ok p) = (up_to_last_cell p.0 ≡ []) × IsOpen p.1
StaysOpen (Err e) = up_to_last_cell e.0.0 ≡ []

by_statement : (items : List LibraryItem) (s : List Lexeme) (o : Outcome Lexeme Refusal Item)
    → Walk (is_outer place.Inside) 0 0 (group_at 0) s o → IsOpen s → up_to_last_cell items ≡ [] →
    StaysOpen (marked (λ k. (items, k)) (and_then o (λ one m. Ok (items ++ given one, m))))
by_statement items s (Ok p) w h none =
    let k = statement_open s p.0 p.1 w h in
    (no_cell_behind items (given p.0) (no_group_no_cell p.0 k.0) ∙ none, k.1)
by_statement items s (Err z) w h none = none

adding_open : (items : List LibraryItem) (a : Option Lexeme) (s : List Lexeme) → IsOpen s → up_to_last_cell items ≡ []
    → StaysOpen (go items a s)
unfolding item_statement
adding_open items None s h none = (none, h)
adding_open items (Some x) s h none =
    by_statement items s (read (statement levels_inside x.bytes x.token.at) s)
    (statement_walk levels_inside 0 x.bytes x.token.at s) h none

then_open : (o : Told) (g : List LibraryItem → List Lexeme → Told) → StaysOpen o →
    ((w : List LibraryItem) (q : List Lexeme) → o ≡ Ok (w, q) → up_to_last_cell w ≡ [] → IsOpen q → StaysOpen (g w q))
    → StaysOpen (and_then o g)
then_open (Ok p) g h i = i p.0 p.1 refl h.0 h.1
then_open (Err e) g h i = h

first_open : (items : List LibraryItem) (v : Option (Verdict (Option Lexeme) (List LibraryItem × Refusal))) (x : Lexeme)
    (m : List Lexeme) (f : Option Lexeme → Told) →
    ((k : List LibraryItem × Refusal) → v ≢ Some (Misfit k))
    → ((k : List LibraryItem × Refusal) (a : Option Lexeme) → v ≢ Some (Foul k a)) → up_to_last_cell items ≡ []
    → IsOpen (x ∷ m) →
    ((a : Option Lexeme) → v ≡ Some (Fits a) → StaysOpen (f a))
    → StaysOpen (judge_first v f (λ k. Err (k, x ∷ m)) (Ok (items, x ∷ m)))
first_open items None x m f no_misfit no_foul none h i = (none, h)
first_open items (Some (Fits a)) x m f no_misfit no_foul none h i = i a refl
first_open items (Some (Foul k a)) x m f no_misfit no_foul none h i = absurd (no_foul k a refl)
first_open items (Some (Misfit k)) x m f no_misfit no_foul none h i = absurd (no_misfit k refl)

turns_open : (n : ℕ) (items : List LibraryItem) (s : List Lexeme) → length s ≤ n → IsOpen s → up_to_last_cell items ≡ []
    → StaysOpen (turns (λ _. starts) go items s)
turns_open n items [] l h none = (none, h)
turns_open zero items (x ∷ s) l h none = absurd (omega arith)
turns_open (suc n) items (x ∷ s) l h none =
    subst (λ (o : Told). StaysOpen o) (sym (unroll (λ _. starts) go (parts_shrink adding) items (x ∷ s)))
    (first_open items (starts x) x s (λ a. and_then (go items a s) (λ w q. turns (λ _. starts) go w q))
    (λ k. begun_fits (start_by x.token.kind) x k) (λ k a. begun_good (start_by x.token.kind) x k a) none h
    (λ a fits. then_open (go items a s) (λ w q. turns (λ _. starts) go w q)
    (adding_open items a s (plain_open x s (start_plain x a fits) h) none)
    (λ w q e none' h'. let k = shrinks (adding items a) s w q e in turns_open n w q (omega arith) h' none')))

file_end_items : (items : List LibraryItem) (s : List Lexeme) → items_in (read (file_end items) s) ≡ items
file_end_items items [] = refl
file_end_items items (x ∷ s) = refl

end_by_outcome : (items : List LibraryItem) (o : Outcome Lexeme Refusal (Unit {0}))
    → items_in (and_then (marked (λ k. (items, k)) o) (λ _ m. read (file_end items) m)) ≡ items
end_by_outcome items (Ok p) = file_end_items items p.1
end_by_outcome items (Err e) = refl

library_end_items : (items : List LibraryItem) (s : List Lexeme) → items_in (read (library_end items) s) ≡ items
unfolding library_end
library_end_items items s = end_by_outcome items (read (expect mark.End (Syntax expected.Statement)) s)

then_no_cell : (o : Told) → StaysOpen o → NoCell (and_then o (λ all m. read (library_end all) m))
then_no_cell (Ok p) h = ap up_to_last_cell (library_end_items p.0 p.1) ∙ h.0
then_no_cell (Err e) h = h

inside_no_cell : (s : List Lexeme) → IsOpen s → NoCell (read (rest_inside []) s)
unfolding rest_inside
inside_no_cell s h = then_no_cell (read (statements_after []) s) (turns_open (length s) [] s (omega arith) h refl)

start_by_outcome : (s : List Lexeme) (o : Outcome Lexeme Refusal (Unit {0}))
    → Walk (is_outer place.Start) 0 1 (λ (b : Unit {0}). true) s o → has_outer place.Start (lexeme_kinds s) ≡ false →
    NoCell (and_then (marked (λ k. ([], k)) o) (λ _ m. read (rest_inside []) m))
start_by_outcome s (Ok p) (used, split, depth, shown) h =
    let both : (shows (is_outer place.Start) 0 used
    || shows (is_outer place.Start) (depth_after 0 used) (lexeme_kinds p.1)) ≡ false =
    sym (shows_append (is_outer place.Start) 0 used (lexeme_kinds p.1)) ∙ ap (shows (is_outer place.Start) 0) (sym split) ∙ h in
    let k : true ≡ false = sym shown
    ∙ left_false (shows (is_outer place.Start) 0 used) (shows (is_outer place.Start) (depth_after 0 used) (lexeme_kinds p.1))
    both in
    absurd cc
start_by_outcome s (Err e) w h = refl

-- tokens of a part without an outer brace
pub part_no_cell : (here : Place) (s : List Lexeme) → has_outer here (lexeme_kinds s) ≡ false → NoCell (read (rest_at here []) s)
part_no_cell place.Start s h = start_by_outcome s (read header s) (header_walk 0 s) h
part_no_cell place.Inside s h = inside_no_cell s h
part_no_cell place.Behind s h = ap up_to_last_cell (file_end_items [] s)

-- Where a reading stops, the last token is no outer brace.

-- the statements up to these tokens have ended
abbrev pub Walked : List Lexeme → List Lexeme → Type 0
Walked s left = (used : List TokenKind) × (lexeme_kinds s ≡ used ++ lexeme_kinds left) × (depth_after 0 used ≡ 0)

pub walked_none : (s : List Lexeme) → Walked s s
walked_none s = ([], refl, refl)

walked_more : (s left next : List Lexeme) → Walked s left → Walked left next → Walked s next
walked_more s left next (used, split, depth) (more, split', depth') = (
  used ++ more,
  split ∙ ap (λ (l : List TokenKind). used ++ l) split' ∙ sym (append_assoc used more (lexeme_kinds next)),
  depth_append 0 used more ∙ ap (λ (d : ℕ). depth_after d more) depth ∙ depth',
)

plain_walked : (x : Lexeme) (s next : List Lexeme) → IsPlain x.token.kind → Walked s next → Walked (x ∷ s) next
plain_walked x s next p (used, split, depth) = (
  x.token.kind ∷ used,
  ap (λ (l : List TokenKind). x.token.kind ∷ l) split,
  ap (λ (d : ℕ). depth_after d used) (plain_depth 0 x.token.kind p) ∙ depth,
)

pub walked_empty : (s left left' : List Lexeme) → Walked s left → next_start left ≡ start.Empty → left' ≡ rest left
    → Walked s left'
walked_empty s [] left' w e f = absurd cc
walked_empty s (x ∷ left) left' w e f =
    subst (λ (l : List Lexeme). Walked s l) (sym f)
    (walked_more s (x ∷ left) left w (plain_walked x left left (empty_plain x.token.kind e) (walked_none left)))

item_by_outcome : (items all : List LibraryItem) (s left : List Lexeme) (o : Outcome Lexeme Refusal Item)
    → Walk (is_outer place.Inside) 0 0 (group_at 0) s o →
    ◌≡◌ {A = Told} (marked (λ k. (items, k)) (and_then o (λ one m. Ok (items ++ given one, m)))) (Ok (all, left)) → Walked s left
item_by_outcome items all s left (Ok p) (used, split, depth, shown) e =
    let same : p.1 ≡ left = ap (rest_of {T = Lexeme} {K = List LibraryItem × Refusal} {A = List LibraryItem}) e in
    subst (λ (l : List Lexeme). Walked s l) same (used, split, depth)
item_by_outcome items all s left (Err z) w e = absurd cc

item_walked : (items all : List LibraryItem) (name : List ℕ) (at : ℕ) (s left : List Lexeme)
    → read (item_statement items name at) s ≡ Ok (all, left) → Walked s left
unfolding item_statement
item_walked items all name at s left e =
    item_by_outcome items all s left (read (statement levels_inside name at) s) (statement_walk levels_inside 0 name at s) e

pub walked_named : (items all : List LibraryItem) (s left next left' : List Lexeme) → Walked s left
    → next_start left ≡ start.Named →
    read (item_statement items (next_bytes left) (next_at left)) (rest left) ≡ Ok (all, next) → left' ≡ next → Walked s left'
walked_named items all s [] next left' w e f g = absurd cc
walked_named items all s (x ∷ left) next left' w e f g =
    subst (λ (l : List Lexeme). Walked s l) (sym g)
    (walked_more s (x ∷ left) next w
    (plain_walked x left next (named_plain x.token.kind e) (item_walked items all x.bytes x.token.at left next f)))

failed_by_outcome : (items all : List LibraryItem) (k : Refusal) (s : List Lexeme) (o : Outcome Lexeme Refusal Item)
    → Walk (is_outer place.Inside) 0 0 (group_at 0) s o →
    ◌≡◌ {A = Told} (marked (λ k. (items, k)) (and_then o (λ one m. Ok (items ++ given one, m)))) (Err ((all, k), [])) → IsOpen s
failed_by_outcome items all k s (Ok p) w e = absurd cc
failed_by_outcome items all k s (Err z) w e =
    w (ap (rest_of {T = Lexeme} {K = List LibraryItem × Refusal} {A = List LibraryItem}) e)

-- a statement that stops at the end of the tokens
pub item_failed : (items all : List LibraryItem) (k : Refusal) (name : List ℕ) (at : ℕ) (s : List Lexeme)
    → read (item_statement items name at) s ≡ Err ((all, k), []) → IsOpen s
unfolding item_statement
item_failed items all k name at s e =
    failed_by_outcome items all k s (read (statement levels_inside name at) s) (statement_walk levels_inside 0 name at s) e

-- a statement that is no group, and uses all tokens
pub item_open : (name : List ℕ) (at : ℕ) (s : List Lexeme) (one : Item) → read (statement levels_inside name at) s ≡ Ok (one, [])
    → is_group one ≡ false → IsOpen s
item_open name at s one e h =
    let w : Walk {K = Refusal} (is_outer place.Inside) 0 0 (group_at 0) s (Ok (one, [])) =
    subst (λ (o : Outcome Lexeme Refusal Item). Walk (is_outer place.Inside) 0 0 (group_at 0) s o) e
    (statement_walk levels_inside 0 name at s) in
    ap (shows (is_outer place.Inside) 0) (w.1 ∙ append-nil w.0) ∙ w.3 ∙ h

-- a statement goes on at the end of the tokens
pub last_open : (s left : List Lexeme) → Walked s left → next_start left ≡ start.Named → IsOpen (rest left)
    → LastIsNotOuter place.Inside (lexeme_kinds s)
last_open s [] w e h = absurd cc
last_open s (x ∷ left) (used, split, depth) e h = λ front last is none.
    (let p : IsPlain x.token.kind = named_plain x.token.kind e in
    let before : shows (is_outer place.Inside) 0 used ≡ false =
    front_shows (is_outer place.Inside) 0 used x.token.kind (lexeme_kinds left) front last (sym split ∙ is) none in
    ap (shows (is_outer place.Inside) 0) split
    ∙ shows_append (is_outer place.Inside) 0 used (x.token.kind ∷ lexeme_kinds left)
    ∙ ap (λ (b : Bool). b || shows (is_outer place.Inside) (depth_after 0 used) (x.token.kind ∷ lexeme_kinds left)) before
    ∙ ap (λ (d : ℕ). shows (is_outer place.Inside) d (x.token.kind ∷ lexeme_kinds left)) depth
    ∙ ap (λ (b : Bool). b || shows (is_outer place.Inside) (depth_behind 0 x.token.kind) (lexeme_kinds left))
    (plain_outer place.Inside 0 x.token.kind p)
    ∙ ap (λ (d : ℕ). shows (is_outer place.Inside) d (lexeme_kinds left)) (plain_depth 0 x.token.kind p)
    ∙ h)

header_by_outcome : (s left : List Lexeme) (k : Refusal) (o : Outcome Lexeme Refusal (Unit {0}))
    → Walk (is_outer place.Start) 0 1 (λ (b : Unit {0}). true) s o → o ≡ Err (k, left) → left ≡ [] →
    has_outer place.Start (lexeme_kinds s) ≡ false
header_by_outcome s left k (Ok p) w e none = absurd cc
header_by_outcome s left k (Err z) w e none = w (ap (rest_of {T = Lexeme} {K = Refusal} {A = Unit {0}}) e ∙ none)

-- the beginning of the library stops at the end of the tokens
pub header_short : (s left : List Lexeme) (k : Refusal) → read header s ≡ Err (k, left) → left ≡ []
    → LastIsNotOuter place.Start (lexeme_kinds s)
header_short s left k e none = none_is_not_outer place.Start (lexeme_kinds s)
    (header_by_outcome s left k (read header s) (header_walk 0 s) e none)

-- more tokens stand behind it
pub header_long : (s : List Lexeme) (x : Lexeme) (left : List Lexeme) → read header s ≡ Ok (tt, x ∷ left)
    → LastIsNotOuter place.Start (lexeme_kinds s)
header_long s x left e front last is none =
    let w : Walk {K = Refusal} (is_outer place.Start) 0 1 (λ (b : Unit {0}). true) s (Ok (tt, x ∷ left)) =
    subst (λ (o : Outcome Lexeme Refusal (Unit {0})). Walk (is_outer place.Start) 0 1 (λ (b : Unit {0}). true) s o) e
    (header_walk 0 s) in
    let k : true ≡ false = sym w.3 ∙ front_shows (is_outer place.Start) 0 w.0 x.token.kind (lexeme_kinds left) front last
    (sym w.1 ∙ is) none in
    absurd cc

-- behind the library there is none
pub behind_not_outer : (kinds : List TokenKind) → LastIsNotOuter place.Behind kinds
behind_not_outer kinds = none_is_not_outer place.Behind kinds (none_outer 0 kinds)
  where
    none_outer : (d : ℕ) (kinds : List TokenKind) → shows (is_outer place.Behind) d kinds ≡ false
    none_outer d [] = refl
    none_outer d (k ∷ kinds) = none_outer (depth_behind d k) kinds
