-- The text of a group, one statement per line, every value quoted.
use Rattle.std.specs.Prelude.{◌≡◌, ℕ, ◌++◌, ◌-◌, ◌==◌, ◌&&◌, Bool, true, false, not, if◌then◌else◌, List, [], ◌∷◌, map, codes}
use Rattle.std.specs.List.{flat_map, list_any, list_all}
use Rattle.liberty_text.specs.declared.token.Token.{Token}
use Rattle.liberty_text.specs.declared.token.TokenKind.TheVariants as kind
use Rattle.liberty_text.specs.declared.token.Stop.TheVariants as stops
use Rattle.liberty_text.specs.TextValue.{quoted, ends_in_backslash}
use Rattle.liberty_text.specs.Tokens.{ends_word, Reads}
use Rattle.grammar_rules.specs.Rule.{Takes}
use Rattle.liberty_groups.specs.declared.tree.Value.{Value}
use Rattle.liberty_groups.specs.declared.tree.Item.{Item, fold-Item}
use Rattle.liberty_groups.specs.declared.tree.Item.TheOpen.{Item-F, Group-F}
use Rattle.liberty_groups.specs.declared.tree.Item.TheVariants as item
use Rattle.liberty_groups.specs.declared.tree.Group.{Group, roll-Group, fold-Group}
use Rattle.liberty_groups.specs.Lexeme.{Lexeme, lexemes_of}
use Rattle.liberty_groups.specs.Grammar.{statement}

abbrev pub value_text : Value → List ℕ
value_text v = 34 ∷ quoted v.bytes ++ 34 ∷ []

-- values with a comma and a space before each but the first
abbrev pub values_text : Bool → List Value → List ℕ
values_text first [] = []
values_text first (v ∷ vs) = (if first then [] else codes ", ") ++ value_text v ++ values_text false vs

abbrev pub simple_text : List ℕ → List Value → List ℕ
simple_text name value = name ++ codes " : " ++ values_text true value ++ 59 ∷ 10 ∷ []

abbrev pub complex_text : List ℕ → List Value → List ℕ
complex_text name arguments = name ++ codes " (" ++ values_text true arguments ++ 41 ∷ 59 ∷ 10 ∷ []

abbrev pub head_text : List ℕ → List Value → List ℕ
head_text name arguments = name ++ codes " (" ++ values_text true arguments ++ 41 ∷ 32 ∷ 123 ∷ 10 ∷ []

-- the text of one statement, with the texts of what stands in it
abbrev pub item_step : Item-F (List ℕ) (List ℕ) → List ℕ
item_step (Item-F.Simple name value _) = simple_text name value
item_step (Item-F.Complex name arguments _) = complex_text name arguments
item_step (Item-F.Inner text) = text

abbrev pub group_step : Group-F (List ℕ) (List ℕ) → List ℕ
group_step g = head_text g.name g.arguments ++ flat_map (λ text. text) g.items ++ 125 ∷ 10 ∷ []

abbrev pub item_text : Item → List ℕ
item_text = fold-Item (List ℕ) (List ℕ) item_step group_step

abbrev pub group_text : Group → List ℕ
group_text = fold-Group (List ℕ) (List ℕ) item_step group_step

abbrev pub items_text : List Item → List ℕ
items_text items = flat_map item_text items

-- each byte goes on in a Word
abbrev pub is_word_text : List ℕ → Bool
is_word_text [] = true
is_word_text (b ∷ bs) = not (ends_word (b ∷ bs)) && is_word_text bs

-- the bytes are a Word
abbrev pub is_name : List ℕ → Bool
is_name [] = false
is_name (b ∷ bs) = is_word_text (b ∷ bs)

-- the value holds no line feed and does not end in a backslash
abbrev pub is_quotable : Value → Bool
is_quotable v = not (list_any (λ b. b == 10) v.bytes) && not (ends_in_backslash false v.bytes)

abbrev pub writable_item : Item-F (ℕ → Bool) (ℕ → Bool) → ℕ → Bool
writable_item (Item-F.Simple name value _) levels = is_name name && list_all is_quotable value
writable_item (Item-F.Complex name arguments _) levels = is_name name && list_all is_quotable arguments
writable_item (Item-F.Inner fits) levels = fits levels

abbrev pub writable_group : Group-F (ℕ → Bool) (ℕ → Bool) → ℕ → Bool
writable_group g levels =
    not (levels == 0) && (is_name g.name && (list_all is_quotable g.arguments && list_all (λ fits. fits (levels - 1)) g.items))

-- Names are Words, values can be quoted, and groups are open inside one another to at most so many levels.
abbrev pub is_writable : ℕ → Group → Bool
is_writable levels group = fold-Group (ℕ → Bool) (ℕ → Bool) writable_item writable_group group levels

-- the same of one statement
abbrev pub item_is_writable : ℕ → Item → Bool
item_is_writable levels x = fold-Item (ℕ → Bool) (ℕ → Bool) writable_item writable_group x levels

abbrev pub as_quoted : Value → Value
as_quoted v = record { bytes = v.bytes; quoted = true }

abbrev pub plain_item_step : Item-F Item Group → Item
plain_item_step (Item-F.Simple name value _) = item.Simple name (map as_quoted value) 0
plain_item_step (Item-F.Complex name arguments _) = item.Complex name (map as_quoted arguments) 0
plain_item_step (Item-F.Inner group) = item.Inner group

abbrev pub plain_group_step : Group-F Item Group → Group
plain_group_step g = roll-Group (record { name = g.name; arguments = map as_quoted g.arguments; items = g.items; at = 0 })

-- a group without its offsets, as if every value were quoted
abbrev pub plain_group : Group → Group
plain_group = fold-Group Item Group plain_item_step plain_group_step

abbrev pub plain_item : Item → Item
plain_item = fold-Item Item Group plain_item_step plain_group_step

-- The tokens are a group: its name, and what follows the name of a statement.
abbrev pub AreGroup : ℕ → List Lexeme → Group → Type 0
AreGroup levels s g =
    (x : Lexeme) × (t : List Lexeme) × (s ≡ x ∷ t) × (x.token.kind ≡ kind.Word)
    × Takes (statement levels x.bytes x.token.at) t (item.Inner g) []

-- The text of a group is that of a group again, and this is the same but for offsets and quotes.
pub record ReadsBack (levels : ℕ) (g : Group) : Type 0 where
  pub tokens : List Token
  pub again : Group
  pub lexes : Reads (group_text g) tokens stops.End
  pub are_group : AreGroup levels (lexemes_of (group_text g) tokens) again
  pub same : plain_group again ≡ plain_group g

abbrev pub WritingReadsBack : Type 0
WritingReadsBack = (levels : ℕ) (g : Group) → is_writable levels g ≡ true → ReadsBack levels g

-- What a group and a statement of each form need to be written.
pub record WritableParts : Type 0 where
  pub group : (levels : ℕ) (name : List ℕ) (arguments : List Value) (items : List Item) (at : ℕ) →
      is_writable levels (roll-Group (record { name = name; arguments = arguments; items = items; at = at }))
      ≡ (not (levels == 0) && (is_name name
      && (list_all is_quotable arguments && list_all (item_is_writable (levels - 1)) items)))
  pub simple : (levels : ℕ) (name : List ℕ) (value : List Value) (at : ℕ) →
      item_is_writable levels (item.Simple name value at) ≡ (is_name name && list_all is_quotable value)
  pub complex : (levels : ℕ) (name : List ℕ) (arguments : List Value) (at : ℕ) →
      item_is_writable levels (item.Complex name arguments at) ≡ (is_name name && list_all is_quotable arguments)
  pub inner : (levels : ℕ) (g : Group) → item_is_writable levels (item.Inner g) ≡ is_writable levels g
