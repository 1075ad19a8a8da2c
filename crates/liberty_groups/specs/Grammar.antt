-- The grammar of Liberty texts over tokens (Liberty Reference Manual, general syntax of a library file).
use Rattle.std.specs.Prelude.{◌≡◌, ℕ, zero, suc, ◌++◌, Bool, true, false, not, ◌||◌, ◌&&◌, ◌==◌, ◌-◌, length, slice_range}
use Rattle.std.specs.Prelude.{if◌then◌else◌, List, [], ◌∷◌, Option, Some, None, Result, Ok, Err}
use Rattle.liberty_text.specs.declared.token.Token.{Token}
use Rattle.liberty_text.specs.declared.token.TokenKind.{TokenKind}
use Rattle.liberty_text.specs.declared.token.TokenKind.TheVariants as kind
use Rattle.liberty_text.specs.TextValue.{value_of}
use Rattle.grammar_rules.specs.Rule.{Rule, Verdict, Fits, Misfit, Takes}
use Rattle.grammar_rules.specs.Rule as r
use Rattle.grammar_rules.specs.Reading.{Outcome}
use Rattle.liberty_groups.specs.declared.fault.Expected.TheVariants as expected
use Rattle.liberty_groups.specs.declared.fault.Refusal.{Refusal}
use Rattle.liberty_groups.specs.declared.fault.Refusal.TheVariants.{Syntax, TooDeep}
use Rattle.liberty_groups.specs.declared.fault.Stop.{Stop}
use Rattle.liberty_groups.specs.declared.fault.Stop.TheVariants.{Refused, Memory}
use Rattle.liberty_groups.specs.declared.reader.Place.{Place}
use Rattle.liberty_groups.specs.declared.reader.Place.TheVariants as place
use Rattle.liberty_groups.specs.declared.reader.Mark.{Mark}
use Rattle.liberty_groups.specs.declared.reader.Mark.TheVariants as mark
use Rattle.liberty_groups.specs.declared.reader.Start.{Start}
use Rattle.liberty_groups.specs.declared.reader.Start.TheVariants as start
use Rattle.liberty_groups.specs.declared.tree.Value.{Value}
use Rattle.liberty_groups.specs.declared.tree.Item.{Item}
use Rattle.liberty_groups.specs.declared.tree.Item.TheVariants as item
use Rattle.liberty_groups.specs.declared.tree.Group.{roll-Group}
use Rattle.liberty_groups.specs.Lexeme.{Lexeme}

abbrev pub Grammar : Type 0 → Type 1
Grammar A = Rule Lexeme Refusal A

infixl 10 ◌>>=◌
abbrev pub ◌>>=◌ : {K A B : Type 0} → Rule Lexeme K A → (A → Rule Lexeme K B) → Rule Lexeme K B
p >>= g = r.Then p g

-- the token of a mark
abbrev pub is_mark : Mark → TokenKind → Bool
is_mark mark.Open (kind.Brace b) = b == 40
is_mark mark.Close (kind.Brace b) = b == 41
is_mark mark.Begin (kind.Brace b) = b == 123
is_mark mark.End (kind.Brace b) = b == 125
is_mark mark.Colon kind.Colon = true
is_mark _ _ = false

abbrev pub only_mark : {K : Type 0} → Mark → K → Lexeme → Verdict (Unit {0}) K
only_mark m k x = if is_mark m x.token.kind then Fits tt else Misfit k

-- a mark that must stand here
abbrev pub expect : {K : Type 0} → Mark → K → Rule Lexeme K (Unit {0})
expect m k = r.Token (only_mark m k) k

-- the bytes of a quoted text between its quotes
abbrev pub between_quotes : List ℕ → List ℕ
between_quotes bytes = slice_range bytes 1 (length bytes - 1)

-- The part of a list of values that a token is: a Word or a quoted text is a value, and no other token
-- leaves a trace.
abbrev pub part_by : TokenKind → List ℕ → List Value
part_by kind.Word bytes = record { bytes = bytes; quoted = false } ∷ []
part_by kind.Text bytes = record { bytes = value_of (between_quotes bytes); quoted = true } ∷ []
part_by _ bytes = []

abbrev pub part_of : Lexeme → List Value
part_of x = part_by x.token.kind x.bytes

-- a token that may stand in arguments
abbrev pub is_argument : TokenKind → Bool
is_argument kind.Word = true
is_argument kind.Text = true
is_argument kind.Comma = true
is_argument _ = false

-- a token that may stand in a value
abbrev pub is_value : TokenKind → Bool
is_value kind.Word = true
is_value kind.Text = true
is_value kind.Comma = true
is_value kind.Colon = true
is_value (kind.Brace b) = b == 40 || b == 41
is_value _ = false

-- A token goes on in arguments; begins a value; or goes on in a value, which a line end ends.
abbrev pub goes_on : Place → Token → Bool
goes_on place.Arguments t = is_argument t.kind
goes_on place.ValueStart t = is_value t.kind
goes_on place.Value t = is_value t.kind && not t.line_before

abbrev pub part_at : Place → Lexeme → Option (Verdict (List Value) Refusal)
part_at p x = if goes_on p x.token then Some (Fits (part_of x)) else None

-- { Word | Text | .. }, after those that there are
abbrev pub parts : Place → List Value → Grammar (List Value)
parts p found = r.Many (λ _. part_at p) (λ found part. r.Gives (found ++ part)) found

-- args ")"
unfoldable pub arguments : Grammar (List Value)
arguments = do
  found ← parts place.Arguments []
  _ ← expect mark.Close (Syntax expected.Argument)
  r.Gives found

-- A value ends before a semicolon, a closing brace, or, after its first token, a token with a line end
-- before it.
abbrev pub ends_by : TokenKind → Bool
ends_by kind.Semicolon = true
ends_by (kind.Brace b) = b == 125
ends_by _ = false

abbrev pub ends_value : Place → Token → Bool
ends_value place.Value t = ends_by t.kind || t.line_before
ends_value _ t = ends_by t.kind

abbrev pub end_at : Place → Lexeme → Verdict (Unit {0}) Refusal
end_at p x = if ends_value p x.token then Fits tt else Misfit (Syntax expected.Value)

abbrev pub value_end : Place → Grammar (Unit {0})
value_end p = r.Peek (end_at p) (Syntax expected.Value)

unfoldable pub more_value : List Value → Grammar (List Value)
more_value part = do
  found ← parts place.Value part
  _ ← value_end place.Value
  r.Gives found

unfoldable pub no_value : Grammar (List Value)
no_value = do
  _ ← value_end place.ValueStart
  r.Gives []

unfoldable pub value : Grammar (List Value)
value = r.Choice (part_at place.ValueStart) more_value no_value

abbrev pub colon : Lexeme → Option (Verdict (Unit {0}) Refusal)
colon x = if is_mark mark.Colon x.token.kind then Some (Fits tt) else None

-- ":" value, after the name of a statement
unfoldable pub simple : List ℕ → ℕ → Grammar Item
simple name at = do
  found ← value
  r.Gives (item.Simple name found at)

-- what a token begins among the statements of a group
abbrev pub start_by : TokenKind → Start
start_by kind.Word = start.Named
start_by kind.Semicolon = start.Empty
start_by _ = start.Other

-- the name of a statement, or a semicolon, which is an empty statement
abbrev pub begun_by : {K : Type 0} → Start → Lexeme → Option (Verdict (Option Lexeme) K)
begun_by start.Named x = Some (Fits (Some x))
begun_by start.Empty x = Some (Fits None)
begun_by start.Other x = None

abbrev pub starts : {K : Type 0} → Lexeme → Option (Verdict (Option Lexeme) K)
starts x = begun_by (start_by x.token.kind) x

-- one more statement, by a rule for what follows its name
abbrev pub one_more : (List ℕ → ℕ → Grammar Item) → List Item → Option Lexeme → Grammar (List Item)
one_more rule items None = r.Gives items
one_more rule items (Some x) = do
  found ← rule x.bytes x.token.at
  r.Gives (items ++ found ∷ [])

-- { statement }, by a rule for what follows a statement's name, after those that there are
abbrev pub some_statements : (List ℕ → ℕ → Grammar Item) → List Item → Grammar (List Item)
some_statements rule items = r.Many (λ _. starts) (one_more rule) items

-- { statement } "}", by a rule for what follows a statement's name
abbrev pub statements : (List ℕ → ℕ → Grammar Item) → Grammar (List Item)
statements rule = do
  items ← some_statements rule []
  _ ← expect mark.End (Syntax expected.Statement)
  r.Gives items

-- a brace that opens a group, where groups may be open to this many more levels
abbrev pub opens : ℕ → Lexeme → Option (Verdict (Unit {0}) Refusal)
opens levels x =
    if is_mark mark.Begin x.token.kind then (if levels == 0 then Some (Misfit TooDeep) else Some (Fits tt)) else None

abbrev pub group_of : List ℕ → List Value → List Item → ℕ → Item
group_of name arguments items at = item.Inner (roll-Group (record { name = name; arguments = arguments; items = items; at = at }))

-- a group, by a rule for what follows its opening brace, or else a complex attribute
unfoldable pub complex_or_group : ℕ → Grammar (List Item) → List ℕ → List Value → ℕ → Grammar Item
complex_or_group levels body name arguments at =
    r.Choice (opens levels) (λ _. body >>= λ items. r.Gives (group_of name arguments items at))
    (r.Gives (item.Complex name arguments at))

-- "(" args ")", and "{" { statement } "}" if it is a group, after the name of a statement
unfoldable pub bracketed : ℕ → Grammar (List Item) → List ℕ → ℕ → Grammar Item
bracketed levels body name at = do
  _ ← expect mark.Open (Syntax expected.AfterName)
  found ← arguments
  complex_or_group levels body name found at

-- what follows the name of a statement, by a rule for what follows an opening brace
abbrev pub after_name : ℕ → Grammar (List Item) → List ℕ → ℕ → Grammar Item
after_name levels body name at = r.Choice colon (λ _. simple name at) (bracketed levels body name at)

-- What follows the brace that opens a group, where groups may be open to this many levels, this one
-- counted.
unfoldable pub body : ℕ → Grammar (List Item)
body zero = r.Gives []
body (suc levels) = statements (after_name levels (body levels))

-- what follows the name of a statement, where groups may be open to this many more levels
abbrev pub statement : ℕ → List ℕ → ℕ → Grammar Item
statement levels name at = after_name levels (body levels) name at

-- what is read is what was returned, with these tokens left, unless memory ran out
abbrev pub Reads : {A : Type 0} → Outcome Lexeme Refusal A → Result A Stop → List Lexeme → Type 0
Reads outcome (Ok a) left = outcome ≡ Ok (a, left)
Reads outcome (Err (Refused k)) left = outcome ≡ Err (k, left)
Reads outcome (Err Memory) left = Unit {0}

-- the part of a list of values that the next token is
abbrev pub next_part : List Lexeme → List Value
next_part [] = []
next_part (x ∷ s) = part_of x

-- a mark stands next
abbrev pub sees : Mark → List Lexeme → Bool
sees m [] = false
sees m (x ∷ s) = is_mark m x.token.kind

-- what the next token begins
abbrev pub next_start : List Lexeme → Start
next_start [] = start.Other
next_start (x ∷ s) = start_by x.token.kind

abbrev pub next_at : List Lexeme → ℕ
next_at [] = 0
next_at (x ∷ s) = x.token.at
