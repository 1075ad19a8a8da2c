-- The library: what is read of it, and what stops a reading (Liberty Reference Manual, the `library` group).
use Rattle.std.specs.Prelude.{◌≡◌, ℕ, ◌++◌, Bool, true, false, ◌&&◌, if◌then◌else◌, List, [], ◌∷◌, Option, Some, None, Result, Ok}
use Rattle.std.specs.Prelude.{Err, codes}
use Rattle.std.specs.Str.{bytes_eq}
use Rattle.liberty_text.specs.declared.token.TokenKind.{TokenKind}
use Rattle.liberty_text.specs.declared.token.TokenKind.TheVariants as kind
use Rattle.grammar_rules.specs.Rule.{Rule, Verdict, Fits, Misfit, Takes, Refuses}
use Rattle.grammar_rules.specs.Rule as r
use Rattle.grammar_rules.specs.Reading.{Outcome}
use Rattle.liberty_groups.specs.declared.fault.Expected.TheVariants as expected
use Rattle.liberty_groups.specs.declared.fault.Refusal.{Refusal}
use Rattle.liberty_groups.specs.declared.fault.Refusal.TheVariants.{Syntax, NotLibrary}
use Rattle.liberty_groups.specs.declared.fault.Stop.{Stop}
use Rattle.liberty_groups.specs.declared.fault.Stop.TheVariants.{Refused, Memory}
use Rattle.liberty_groups.specs.declared.reader.Mark.TheVariants as mark
use Rattle.liberty_groups.specs.declared.tree.Value.{Value}
use Rattle.liberty_groups.specs.declared.tree.Item.{Item, out-Item}
use Rattle.liberty_groups.specs.declared.tree.Item.TheOpen.{Item-F}
use Rattle.liberty_groups.specs.declared.tree.Group.{Group, out-Group}
use Rattle.liberty_groups.specs.declared.contents.UnitLine.{UnitLine}
use Rattle.liberty_groups.specs.declared.contents.Contents.{Contents}
use Rattle.liberty_groups.specs.Lexeme.{Lexeme}
use Rattle.liberty_groups.specs.Grammar.{Grammar, ◌>>=◌, expect, arguments, starts, statement}

-- what is kept of a library: its cells, its time units, the places of statements that name other files, and its types
pub record Found : Type 0 where
  pub cells : List Group
  pub units : List UnitLine
  pub left_out : List ℕ
  pub types : List Group

abbrev pub nothing_found : Found
nothing_found = record { cells = []; units = []; left_out = []; types = [] }

-- what the lists of the code hold
abbrev pub found_of : Contents → Found
found_of c = record { cells = c.cells.items; units = c.units.items; left_out = c.left_out.items; types = c.types.items }

-- The text of a simple attribute is that of its one value. With no value or with several it is empty.
abbrev pub one_text : List Value → List ℕ
one_text [] = []
one_text (v ∷ []) = v.bytes
one_text (v ∷ w ∷ vs) = []

abbrev pub with_cell : Group → Found → Found
with_cell group f = record f { cells = f.cells ++ group ∷ [] }

abbrev pub with_unit : List Value → ℕ → Found → Found
with_unit value at f = record f { units = f.units ++ record { value = one_text value; at = at } ∷ [] }

abbrev pub with_left_out : ℕ → Found → Found
with_left_out at f = record f { left_out = f.left_out ++ at ∷ [] }

abbrev pub with_type : Group → Found → Found
with_type group f = record f { types = f.types ++ group ∷ [] }

abbrev pub with_named : List ℕ → ℕ → Found → Found
with_named name at f = if bytes_eq name (codes "include_file") then with_left_out at f else f

abbrev pub with_group : Group → Found → Found
with_group group f =
    if bytes_eq (out-Group group).name (codes "cell") then with_cell group f
    else (if bytes_eq (out-Group group).name (codes "type") then with_type group f
    else with_named (out-Group group).name (out-Group group).at f)

-- A group `cell` is a cell, a group `type` is a type, a simple attribute `time_unit` is a time unit, and a statement
-- `include_file` of any form names another file, which is not read. All else is skipped.
abbrev pub counted_by : Found → Item-F Item Group → Found
counted_by f (Item-F.Simple name value at) = if bytes_eq name (codes "time_unit") then with_unit value at f
    else with_named name at f
counted_by f (Item-F.Complex name _ at) = with_named name at f
counted_by f (Item-F.Inner group) = with_group group f

unfoldable pub counted : Found → Item → Found
counted f item = counted_by f (out-Item item)

-- groups inside the library may be open to this many levels: the library itself is the first of 32
abbrev pub levels_inside : ℕ
levels_inside = 31

abbrev pub is_word : TokenKind → Bool
is_word kind.Word = true
is_word _ = false

abbrev pub is_library_name : Lexeme → Bool
is_library_name x = is_word x.token.kind && bytes_eq x.bytes (codes "library")

abbrev pub library_name : Lexeme → Verdict (Unit {0}) Refusal
library_name x = if is_library_name x then Fits tt else Misfit NotLibrary

-- "library" "(" args ")" "{"
unfoldable pub header : Grammar (Unit {0})
header = do
  _ ← r.Token library_name NotLibrary
  _ ← expect mark.Open (Syntax expected.Opening)
  _ ← arguments
  expect mark.Begin (Syntax expected.Opening)

abbrev pub next_is_library : List Lexeme → Bool
next_is_library [] = false
next_is_library (x ∷ s) = is_library_name x

-- A rule whose faults tell what was found before: the statements that had ended.
abbrev pub Telling : Type 0 → Type 1
Telling A = Rule Lexeme (Found × Refusal) A

abbrev pub telling : {A : Type 0} → Found → Grammar A → Telling A
telling found p = r.Marked (λ k. (found, k)) p

unfoldable pub counted_statement : Found → List ℕ → ℕ → Telling Found
counted_statement found name at = telling found (statement levels_inside name at >>= λ item. r.Gives (counted found item))

abbrev pub counting : Found → Option Lexeme → Telling Found
counting found None = r.Gives found
counting found (Some x) = counted_statement found x.bytes x.token.at

-- { statement } of the library, after what was found
abbrev pub contents : Found → Telling Found
contents found = r.Many (λ _. starts) counting found

unfoldable pub rest_of_library : Telling Found
rest_of_library = do
  found ← contents nothing_found
  _ ← telling found (expect mark.End (Syntax expected.Statement))
  r.Last (λ _. (found, Syntax expected.FileEnd)) found

-- "library" "(" args ")" "{" { statement } "}"
unfoldable pub library : Telling Found
library = telling nothing_found header >>= λ _. rest_of_library

-- what is read is what was returned, with what was found and these tokens left, unless memory ran out
abbrev pub Gathers : Outcome Lexeme (Found × Refusal) Found → Result (Unit {0}) Stop → Found → List Lexeme → Type 0
Gathers outcome (Ok u) found left = outcome ≡ Ok (found, left)
Gathers outcome (Err (Refused k)) found left = outcome ≡ Err ((found, k), left)
Gathers outcome (Err Memory) found left = Unit {0}
