-- The items of a library in the order of the file: cells, types, time units, and statements that name other files (Liberty
-- Reference Manual, the `library` group).
use Rattle.std.specs.Prelude.{◌≡◌, ℕ, ◌+◌, ◌≤◌, ◌++◌, Bool, true, false, List, [], ◌∷◌, Option, Some, None, Result, Ok, Err}
use Rattle.std.specs.Prelude.{codes, if◌then◌else◌}
use Rattle.std.specs.Str.{bytes_eq}
use Rattle.grammar_rules.specs.Rule.{Rule}
use Rattle.grammar_rules.specs.Rule as r
use Rattle.grammar_rules.specs.Reading.{Outcome, read}
use Rattle.liberty_text.specs.Scanner.{scan_of}
use Rattle.liberty_groups.specs.declared.fault.Expected.TheVariants as expected
use Rattle.liberty_groups.specs.declared.fault.Refusal.{Refusal}
use Rattle.liberty_groups.specs.declared.fault.Refusal.TheVariants.{Syntax}
use Rattle.liberty_groups.specs.declared.fault.Stop.{Stop}
use Rattle.liberty_groups.specs.declared.fault.Stop.TheVariants.{Refused, Memory}
use Rattle.liberty_groups.specs.declared.reader.Mark.TheVariants as mark
use Rattle.liberty_groups.specs.declared.tree.Item.{Item, out-Item}
use Rattle.liberty_groups.specs.declared.tree.Item.TheOpen.{Item-F}
use Rattle.liberty_groups.specs.declared.tree.Group.{Group, out-Group}
use Rattle.liberty_groups.specs.Lexeme.{Lexeme, lexemes_of}
use Rattle.liberty_groups.specs.Grammar.{Grammar, ◌>>=◌, expect, starts, statement}
use Rattle.liberty_groups.specs.Answer.{found_of_bytes}
use Rattle.liberty_groups.specs.Library.{Found, nothing_found, with_cell, with_left_out, with_type, one_text, levels_inside}
use Rattle.liberty_groups.specs.Library.{header}
use Rattle.cell_cursor.specs.declared.item.LibraryItem.{LibraryItem}
use Rattle.cell_cursor.specs.declared.item.LibraryItem.TheVariants as item
use Rattle.cell_cursor.specs.declared.part.Place.{Place}
use Rattle.cell_cursor.specs.declared.part.Place.TheVariants as place

-- a statement that is neither cell nor type nor time unit
abbrev pub named_item : List ℕ → ℕ → List LibraryItem
named_item name at = if bytes_eq name (codes "include_file") then item.LeftOut at ∷ [] else []

-- a group of the library
abbrev pub group_item : Group → List LibraryItem
group_item group =
    if bytes_eq (out-Group group).name (codes "cell") then item.Cell group ∷ []
    else (if bytes_eq (out-Group group).name (codes "type") then item.BusType group ∷ []
    else named_item (out-Group group).name (out-Group group).at)

abbrev pub given_by : Item-F Item Group → List LibraryItem
given_by (Item-F.Simple name value at) =
    if bytes_eq name (codes "time_unit") then item.Unit (record { value = one_text value; at = at }) ∷ [] else named_item name at
given_by (Item-F.Complex name _ at) = named_item name at
given_by (Item-F.Inner group) = group_item group

-- The item that a statement of the library is, if it is one: a group `cell` is a cell, a group `type` is a type, a simple
-- attribute `time_unit` is a time unit, and a statement `include_file` of any form names another file. All else is skipped.
unfoldable pub given : Item → List LibraryItem
given statement = given_by (out-Item statement)

-- a statement is a group
abbrev pub is_group_by : Item-F Item Group → Bool
is_group_by (Item-F.Inner group) = true
is_group_by _ = false

abbrev pub is_group : Item → Bool
is_group statement = is_group_by (out-Item statement)

-- A statement with so much behind it has ended whatever follows: a group has its brace, and the others are ended by the
-- token that comes next.
abbrev pub has_ended : Item → List Lexeme → Bool
has_ended statement [] = is_group statement
has_ended statement (x ∷ left) = true

-- A rule whose faults tell the items of the statements that had ended.
abbrev pub Telling : Type 0 → Type 1
Telling A = Rule Lexeme (List LibraryItem × Refusal) A

abbrev pub telling : {A : Type 0} → List LibraryItem → Grammar A → Telling A
telling items p = r.Marked (λ k. (items, k)) p

-- a statement of the library behind these items, by its name
unfoldable pub item_statement : List LibraryItem → List ℕ → ℕ → Telling (List LibraryItem)
item_statement items name at = telling items (statement levels_inside name at >>= λ one. r.Gives (items ++ given one))

abbrev pub adding : List LibraryItem → Option Lexeme → Telling (List LibraryItem)
adding items None = r.Gives items
adding items (Some x) = item_statement items x.bytes x.token.at

-- { statement } of the library, behind these items
abbrev pub statements_after : List LibraryItem → Telling (List LibraryItem)
statements_after items = r.Many (λ _. starts) adding items

-- the end of the file
abbrev pub file_end : List LibraryItem → Telling (List LibraryItem)
file_end items = r.Last (λ _. (items, Syntax expected.FileEnd)) items

-- "}" of the library and the end of the file
unfoldable pub library_end : List LibraryItem → Telling (List LibraryItem)
library_end items = telling items (expect mark.End (Syntax expected.Statement)) >>= λ _. file_end items

-- { statement } "}"
unfoldable pub rest_inside : List LibraryItem → Telling (List LibraryItem)
rest_inside items = statements_after items >>= λ all. library_end all

-- all that follows in a file, from a place of its library on, behind these items
abbrev pub rest_at : Place → List LibraryItem → Telling (List LibraryItem)
rest_at place.Start items = telling items header >>= λ _. rest_inside items
rest_at place.Inside items = rest_inside items
rest_at place.Behind items = file_end items

-- what a reading gave, or had given when it stopped
abbrev pub items_in : Outcome Lexeme (List LibraryItem × Refusal) (List LibraryItem) → List LibraryItem
items_in (Ok p) = p.0
items_in (Err e) = e.0.0

-- the tokens of the bytes, read with their items in order
unfoldable pub items_outcome : List ℕ → Outcome Lexeme (List LibraryItem × Refusal) (List LibraryItem)
items_outcome bytes = read (rest_at place.Start []) (lexemes_of bytes (scan_of bytes).0)

-- the items of a library, in the order of the file
abbrev pub items_of_bytes : List ℕ → List LibraryItem
items_of_bytes bytes = items_in (items_outcome bytes)

-- what these items come to as the four lists of a reading
abbrev pub with_item : Found → LibraryItem → Found
with_item f (item.Cell group) = with_cell group f
with_item f (item.Unit unit) = record f { units = f.units ++ unit ∷ [] }
with_item f (item.LeftOut at) = with_left_out at f
with_item f (item.BusType group) = with_type group f

abbrev pub gathered : Found → List LibraryItem → Found
gathered f [] = f
gathered f (one ∷ items) = gathered (with_item f one) items

-- the offset of an item
abbrev pub item_at : LibraryItem → ℕ
item_at (item.Cell group) = (out-Group group).at
item_at (item.Unit unit) = unit.at
item_at (item.LeftOut at) = at
item_at (item.BusType group) = (out-Group group).at

-- what is read of the next statements is what was returned, with these items and these tokens left, unless memory ran out
abbrev pub Adds : {T : Type 0} → Outcome Lexeme (List LibraryItem × Refusal) (List LibraryItem) → Result T Stop → List LibraryItem
    → List Lexeme → Type 0
Adds outcome (Ok u) items left = outcome ≡ Ok (items, left)
Adds outcome (Err (Refused k)) items left = outcome ≡ Err ((items, k), left)
Adds outcome (Err Memory) items left = Unit {0}

-- the items in order are those that a reading finds
abbrev pub ItemsAreFound : List ℕ → Type 0
ItemsAreFound bytes = found_of_bytes bytes ≡ gathered nothing_found (items_of_bytes bytes)

-- from an offset on the offsets of these items ascend
abbrev pub Ascend : ℕ → List LibraryItem → Type 0
Ascend from [] = Unit {0}
Ascend from (one ∷ items) = (from ≤ item_at one) × Ascend (item_at one + 1) items
