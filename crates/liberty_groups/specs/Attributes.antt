-- The statements of a group by their names (Liberty Reference Manual, group, simple attribute and complex attribute
-- statements).
use Rattle.std.specs.Prelude.{ℕ, Bool, not, ◌==◌, List, [], ◌∷◌, length, filter, bytes_eq, Option, Some, None, if◌then◌else◌}
use Rattle.std.specs.List.{filter_map, slice_split}
use Rattle.liberty_groups.specs.declared.tree.Value.{Value}
use Rattle.liberty_groups.specs.declared.tree.Item.{Item, out-Item}
use Rattle.liberty_groups.specs.declared.tree.Item.TheOpen.{Item-F}
use Rattle.liberty_groups.specs.declared.tree.Item.TheOpen as layer
use Rattle.liberty_groups.specs.declared.tree.Group.{Group}
use Rattle.liberty_groups.specs.declared.attributes.Attribute.{Attribute as Held}

-- The text of an attribute, and the offset of its statement.
pub record Attribute : Type 0 where
  pub text : List ℕ
  pub at : ℕ

-- What stands behind the reference that the program holds.
abbrev pub shown : Held → Attribute
shown attribute = record { text = attribute.text.now; at = attribute.at }

-- The text of a simple attribute is that of its one value. With no value or with several it is empty.
-- (This project's rule.)
abbrev pub text_of : List Value → List ℕ
text_of (value ∷ []) = value.bytes
text_of _ = []

-- The simple attribute that a statement is, where it is one of this name.
abbrev pub simple_named : List ℕ → Item-F Item Group → Option Attribute
simple_named name (layer.Simple n value at) = if bytes_eq n name then Some (record { text = text_of value; at = at }) else None
simple_named name (layer.Complex n arguments at) = None
simple_named name (layer.Inner group) = None

-- The group that a statement is, where it is one of this name.
abbrev pub group_named : List ℕ → Item-F Item Group → Option Group
group_named name (layer.Simple n value at) = None
group_named name (layer.Complex n arguments at) = None
group_named name (layer.Inner group) = if bytes_eq group.name name then Some group else None

-- The simple attributes of this name among the statements, in order.
abbrev pub attributes_named : List ℕ → List Item → List Attribute
attributes_named name items = filter_map (λ item. simple_named name (out-Item item)) items

-- The groups of this name among the statements, in order.
abbrev pub groups_named : List ℕ → List Item → List Group
groups_named name items = filter_map (λ item. group_named name (out-Item item)) items

-- The last of a list, or this where there is none.
abbrev pub last_or : {A : Type 0} → Option A → List A → Option A
last_or earlier [] = earlier
last_or earlier (x ∷ xs) = last_or (Some x) xs

-- The attribute of this name that counts in a group: of several the last one. (This project's rule.)
abbrev pub attribute_of : Group → List ℕ → Option Attribute
attribute_of group name = last_or None (attributes_named name group.items)

-- The parts of a text between separators that are not empty.
abbrev pub words_between : (ℕ → Bool) → List ℕ → List (List ℕ)
words_between is_separator text = filter (λ word. not (length word == 0)) (slice_split is_separator text)

-- The offset of an attribute's statement, where it is written.
abbrev pub place_of : Option Attribute → List ℕ
place_of None = []
place_of (Some attribute) = attribute.at ∷ []

-- The first of a list, where there is one.
abbrev pub first_of : {A : Type 0} → List A → Option A
first_of [] = None
first_of (x ∷ xs) = Some x
