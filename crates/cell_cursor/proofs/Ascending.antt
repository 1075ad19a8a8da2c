-- The items of a library stand in the order of their offsets, and are no more than its bytes.
use Rattle.std.proofs.Common.{◌≡◌, ℕ, zero, suc, ◌+◌, ◌≤◌, Bool, true, false, List, [], ◌∷◌, ◌++◌, length, Option, Some, None, Ok}
use Rattle.std.proofs.Common.{Err, cond, codes, refl, sym, ap, subst, ◌∙◌, length-append, arith}
use Rattle.std.specs.Str.{bytes_eq}
use Rattle.std.specs.List.{AllByRecursion}
use Rattle.std.proofs.lemmas.List.{append-nil, append_assoc, length-map}
use Rattle.std.proofs.lemmas.List.Elements.{recursion_from_All}
use Rattle.grammar_rules.specs.Reading.{Outcome, and_then, marked, judge_first, read}
use Rattle.grammar_rules.proofs.Steps.{rest_of}
use Rattle.grammar_rules.proofs.Exact.{parts_shrink, shrinks}
use Rattle.grammar_rules.proofs.Places.{Suffix, suffix}
use Rattle.grammar_rules.proofs.Turns.{turns, unroll}
use Rattle.liberty_text.specs.declared.token.Token.{Token}
use Rattle.liberty_text.specs.Scanner.{scan_of}
use Rattle.liberty_text.specs.TokenLaws.{IsInside, AreInOrder}
use Rattle.liberty_text.proofs.Places.{all_inside, all_in_order}
use Rattle.liberty_groups.specs.declared.fault.Expected.TheVariants as expected
use Rattle.liberty_groups.specs.declared.fault.Refusal.{Refusal}
use Rattle.liberty_groups.specs.declared.fault.Refusal.TheVariants.{Syntax}
use Rattle.liberty_groups.specs.declared.reader.Mark.TheVariants as mark
use Rattle.liberty_groups.specs.declared.reader.Start.{Start}
use Rattle.liberty_groups.specs.declared.reader.Start.TheVariants as start
use Rattle.liberty_groups.specs.declared.tree.Item.{Item, out-Item}
use Rattle.liberty_groups.specs.declared.tree.Item.TheOpen.{Item-F}
use Rattle.liberty_groups.specs.declared.tree.Group.{Group, out-Group}
use Rattle.liberty_groups.specs.Lexeme.{Lexeme, lexeme_of, lexemes_of}
use Rattle.liberty_groups.specs.Grammar.{expect, start_by, begun_by, starts, statement}
use Rattle.liberty_groups.specs.Library.{levels_inside, header, one_text}
use Rattle.cell_cursor.specs.declared.item.LibraryItem.{LibraryItem}
use Rattle.cell_cursor.specs.declared.item.LibraryItem.TheVariants as given_item
use Rattle.cell_cursor.specs.Items.{named_item, given_by, given, item_statement, adding, statements_after, file_end, library_end}
use Rattle.cell_cursor.specs.Items.{rest_inside, items_in, items_outcome, items_of_bytes, Ascend}
use Rattle.cell_cursor.proofs.Prefix.{Told}
use Rattle.cell_cursor.proofs.StatementOffsets.{AllAt, given_at, reads_at}

-- tokens in order

abbrev Sorted : ℕ → List Lexeme → Type 0
Sorted from [] = Unit {0}
Sorted from (x ∷ s) = (from ≤ x.token.at) × Sorted (x.token.at + 1) s

sorted_from : (m n : ℕ) (s : List Lexeme) → n ≤ m → Sorted m s → Sorted n s
sorted_from m n [] h i = tt
sorted_from m n (x ∷ s) h i = let k = i.0 in (omega (arith, h, k), i.1)

sorted_tokens : (from len : ℕ) (text : List ℕ) (ts : List Token) → AreInOrder from ts → AllByRecursion (IsInside len) ts
    → Sorted from (lexemes_of text ts)
sorted_tokens from len text [] h i = tt
sorted_tokens from len text (t ∷ ts) h i =
    let some = i.0.some in
    (h.0, sorted_from t.end (t.at + 1) (lexemes_of text ts) (omega (arith, some)) (sorted_tokens t.end len text ts h.1 i.1))

sorted_rest : (from : ℕ) (front s : List Lexeme) → Sorted from (front ++ s) → Sorted from s
sorted_rest from [] s h = h
sorted_rest from (x ∷ front) s h =
    let k = h.0 in sorted_from (x.token.at + 1) from s (omega (arith, k)) (sorted_rest (x.token.at + 1) front s h.1)

sorted_suffix : (from : ℕ) (s left : List Lexeme) → Suffix s left → Sorted from s → Sorted from left
sorted_suffix from s left h i = sorted_rest from h.0 left (subst (λ (l : List Lexeme). Sorted from l) h.1 i)

-- items in order

ascend_from : (m n : ℕ) (items : List LibraryItem) → n ≤ m → Ascend m items → Ascend n items
ascend_from m n [] h i = tt
ascend_from m n (x ∷ items) h i = let k = i.0 in (omega (arith, h, k), i.1)

-- a reading adds items behind an offset, at most so many
pub record AddsFrom (items : List LibraryItem) (from most : ℕ) (o : Told) : Type 0 where
  pub added : List LibraryItem
  pub is : items_in o ≡ items ++ added
  pub ascend : Ascend from added
  pub few : length added ≤ most

adds_nothing : (items : List LibraryItem) (from most : ℕ) (o : Told) → items_in o ≡ items → AddsFrom items from most o
adds_nothing items from most o e = record { added = []; is = e ∙ sym (append-nil items); ascend = tt; few = omega arith }

adds_earlier :
    (items : List LibraryItem) (m n few most : ℕ) (o : Told) → n ≤ m → few ≤ most → AddsFrom items m few o
    → AddsFrom items n most o
adds_earlier items m n few most o h i a = record {
  added = a.added;
  is = a.is;
  ascend = ascend_from m n a.added h a.ascend;
  few = let k = a.few in omega (arith, k, i);
}

joined : (from at : ℕ) (one more : List LibraryItem) → from ≤ at → AllAt at one → length one ≤ 1 → Ascend (at + 1) more
    → Ascend from (one ++ more)
joined from at [] more h i l a = ascend_from (at + 1) from more (omega (arith, h)) a
joined from at (x ∷ []) more h i l a =
    let e = i.0 in (omega (arith, h, e), subst (λ (k : ℕ). Ascend (k + 1) more) (sym e) a)
joined from at (x ∷ y ∷ one) more h i l a = absurd (omega (arith, l))

adds_after :
    (items one : List LibraryItem) (from at most : ℕ) (o : Told) → from ≤ at → AllAt at one → length one ≤ 1
    → AddsFrom (items ++ one) (at + 1) most o → AddsFrom items from (suc most) o
adds_after items one from at most o h i l a = record {
  added = one ++ a.added;
  is = a.is ∙ append_assoc items one a.added;
  ascend = joined from at one a.added h i l a.ascend;
  few = let k = a.few in omega (arith, k, l, length-append one a.added);
}

few_cond : (x : Bool) (a b : List LibraryItem) → length a ≤ 1 → length b ≤ 1 → length (cond x a b) ≤ 1
few_cond true a b h i = h
few_cond false a b h i = i

few_named : (name : List ℕ) (at : ℕ) → length (named_item name at) ≤ 1
few_named name at = few_cond (bytes_eq name (codes "include_file")) (given_item.LeftOut at ∷ []) [] (omega arith) (omega arith)

few_by : (one : Item-F Item Group) → length (given_by one) ≤ 1
few_by (Item-F.Simple name values at) =
    few_cond (bytes_eq name (codes "time_unit")) (given_item.Unit (record { value = one_text values; at = at }) ∷ [])
    (named_item name at) (omega arith) (few_named name at)
few_by (Item-F.Complex name _ at) = few_named name at
few_by (Item-F.Inner group) =
    let name = (out-Group group).name in
    let at = (out-Group group).at in
    few_cond (bytes_eq name (codes "cell")) (given_item.Cell group ∷ [])
    (cond (bytes_eq name (codes "type")) (given_item.BusType group ∷ []) (named_item name at)) (omega arith)
    (few_cond (bytes_eq name (codes "type")) (given_item.BusType group ∷ []) (named_item name at) (omega arith)
    (few_named name at))

few_given : (one : Item) → length (given one) ≤ 1
unfolding given
few_given one = few_by (out-Item one)

abbrev go : List LibraryItem → Option Lexeme → List Lexeme → Told
go items a s = read (adding items a) s

abbrev onward : Told → Told
onward o = and_then o (λ w q. turns (λ _. starts) go w q)

named_adds : (items : List LibraryItem) (from most : ℕ) (x : Lexeme) (o : Outcome Lexeme Refusal Item) → from ≤ x.token.at →
    ((one : Item) (left : List Lexeme) → o ≡ Ok (one, left) → AllAt x.token.at (given one)
    × AddsFrom (items ++ given one) (x.token.at + 1) most (turns (λ _. starts) go (items ++ given one) left)) →
    AddsFrom items from (suc most) (onward (marked (λ k. (items, k)) (and_then o (λ one q. Ok (items ++ given one, q)))))
named_adds items from most x (Ok p) h i =
    let k = i p.0 p.1 refl in
    adds_after items (given p.0) from x.token.at most (turns (λ _. starts) go (items ++ given p.0) p.1) h k.0 (few_given p.0) k.1
named_adds items from most x (Err e) h i = adds_nothing items from (suc most) (Err ((items, e.0), e.1)) refl

statement_adds : (items : List LibraryItem) (from most : ℕ) (x : Lexeme) (s : List Lexeme) → from ≤ x.token.at →
    ((one : Item) (left : List Lexeme) → read (statement levels_inside x.bytes x.token.at) s ≡ Ok (one, left)
    → AllAt x.token.at (given one) × AddsFrom (items ++ given one) (x.token.at + 1) most
    (turns (λ _. starts) go (items ++ given one) left)) →
    AddsFrom items from (suc most) (onward (read (item_statement items x.bytes x.token.at) s))
unfolding item_statement
statement_adds items from most x s h i = named_adds items from most x (read (statement levels_inside x.bytes x.token.at) s) h i

first_adds : (items : List LibraryItem) (from most : ℕ) (b : Start) (x : Lexeme) (s : List Lexeme) →
    AddsFrom items from most (onward (go items None s)) → AddsFrom items from most (onward (go items (Some x) s)) →
    AddsFrom items from most (judge_first (begun_by b x) (λ a. onward (go items a s)) (λ k. Err (k, x ∷ s)) (Ok (items, x ∷ s)))
first_adds items from most start.Named x s h i = i
first_adds items from most start.Empty x s h i = h
first_adds items from most start.Other x s h i = adds_nothing items from most (Ok (items, x ∷ s)) refl

turns_add :
    (n : ℕ) (items : List LibraryItem) (s : List Lexeme) (from : ℕ)
    → length s ≤ n → Sorted from s → AddsFrom items from (length s) (turns (λ _. starts) go items s)
turns_add n items [] from l h = adds_nothing items from 0 (Ok (items, [])) refl
turns_add zero items (x ∷ s) from l h = absurd (omega (arith, l))
turns_add (suc n) items (x ∷ s) from l h =
    let first = h.0 in
    subst (λ (o : Told). AddsFrom items from (suc (length s)) o)
    (sym (unroll (λ _. starts) go (parts_shrink adding) items (x ∷ s)))
    (first_adds items from (suc (length s)) (start_by x.token.kind) x s
    (adds_earlier items (x.token.at + 1) from (length s) (suc (length s)) (turns (λ _. starts) go items s) (omega (arith, first))
    (omega arith)
    (turns_add n items s (x.token.at + 1) (omega (arith, l)) h.1))
    (statement_adds items from (length s) x s first
    (λ one left e.
    let short = shrinks (statement levels_inside x.bytes x.token.at) s one left e in
    let end : Suffix s left = subst (λ (o : Outcome Lexeme Refusal Item). Suffix s (rest_of o)) e
    (suffix (statement levels_inside x.bytes x.token.at) s) in (
      given_at one x.token.at (reads_at levels_inside x.bytes x.token.at s one left e),
      adds_earlier (items ++ given one) (x.token.at + 1) (x.token.at + 1) (length left) (length s)
          (turns (λ _. starts) go (items ++ given one) left) (omega arith) (omega (arith, short))
          (turns_add n (items ++ given one) left (x.token.at + 1) (omega (arith, l, short))
          (sorted_suffix (x.token.at + 1) s left end h.1)),
    ))))

then_in : (o : Told) (g : List LibraryItem → List Lexeme → Told)
    → ((a : List LibraryItem) (m : List Lexeme) → items_in (g a m) ≡ a) → items_in (and_then o g) ≡ items_in o
then_in (Ok p) g h = h p.0 p.1
then_in (Err e) g h = refl

end_in_by : (items : List LibraryItem) (o : Outcome Lexeme Refusal (Unit {0}))
    → items_in (and_then (marked (λ k. (items, k)) o) (λ _ m. read (file_end items) m)) ≡ items
end_in_by items (Ok p) = file_in items p.1
  where
    file_in : (items : List LibraryItem) (s : List Lexeme) → items_in (read (file_end items) s) ≡ items
    file_in items [] = refl
    file_in items (x ∷ s) = refl
end_in_by items (Err e) = refl

end_in : (items : List LibraryItem) (s : List Lexeme) → items_in (read (library_end items) s) ≡ items
unfolding library_end
end_in items s = end_in_by items (read (expect mark.End (Syntax expected.Statement)) s)

-- items in order, at most so many
pub record AreFew (from most : ℕ) (items : List LibraryItem) : Type 0 where
  pub ascend : Ascend from items
  pub few : length items ≤ most

inside_few : (from : ℕ) (s : List Lexeme) → Sorted from s → AreFew from (length s) (items_in (read (rest_inside []) s))
unfolding rest_inside
inside_few from s h =
    let a = turns_add (length s) [] s from (omega arith) h in
    subst (λ (l : List LibraryItem). AreFew from (length s) l)
    (sym (then_in (read (statements_after []) s) (λ all m. read (library_end all) m) end_in ∙ a.is))
    (record { ascend = a.ascend; few = a.few })

suffix_short : (s left : List Lexeme) → Suffix s left → length left ≤ length s
suffix_short s left h = let k = ap length h.1 in omega (arith, k, length-append h.0 left)

start_few : (from : ℕ) (s : List Lexeme) (o : Outcome Lexeme Refusal (Unit {0})) → Suffix s (rest_of o) → Sorted from s →
    AreFew from (length s) (items_in (and_then (marked (λ k. ([], k)) o) (λ _ m. read (rest_inside []) m)))
start_few from s (Ok p) h i =
    let a = inside_few from p.1 (sorted_suffix from s p.1 h i) in
    record { ascend = a.ascend; few = let k = a.few in omega (arith, k, suffix_short s p.1 h) }
start_few from s (Err e) h i = record { ascend = tt; few = omega arith }

-- tokens are no more than the bytes
tokens_few : (from len : ℕ) (ts : List Token) → from ≤ len → AreInOrder from ts → AllByRecursion (IsInside len) ts
    → from + length ts ≤ len
tokens_few from len [] h order inside = omega (arith, h)
tokens_few from len (t ∷ ts) h order inside =
    let first = order.0 in
    let some = inside.0.some in
    let within = inside.0.within in
    let rest = tokens_few t.end len ts within order.1 inside.1 in
    omega (arith, first, some, rest)

items_kept : (bytes : List ℕ) → AreFew 0 (length (lexemes_of bytes (scan_of bytes).0)) (items_of_bytes bytes)
unfolding items_outcome
items_kept bytes =
    let ts = (scan_of bytes).0 in
    start_few 0 (lexemes_of bytes ts) (read header (lexemes_of bytes ts)) (suffix header (lexemes_of bytes ts))
    (sorted_tokens 0 (length bytes) bytes ts (all_in_order bytes ts refl)
    (recursion_from_All (IsInside (length bytes)) ts (all_inside bytes ts refl)))

pub items_ascend : (bytes : List ℕ) → Ascend 0 (items_of_bytes bytes)
items_ascend bytes = (items_kept bytes).ascend

pub items_few : (bytes : List ℕ) → length (items_of_bytes bytes) ≤ length bytes
items_few bytes =
    let ts = (scan_of bytes).0 in
    let few = (items_kept bytes).few in
    let same = length-map ts (lexeme_of bytes) in
    let tokens = tokens_few 0 (length bytes) ts (omega arith) (all_in_order bytes ts refl)
    (recursion_from_All (IsInside (length bytes)) ts (all_inside bytes ts refl)) in
    omega (arith, few, same, tokens)
