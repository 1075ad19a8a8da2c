-- Statements and groups of a Liberty text as trees: each value is quoted, and no offset is told. (Liberty Reference Manual,
-- general syntax of a library file.)
use Rattle.std.specs.Prelude.{ℕ, true, List, [], ◌∷◌, codes}
use Rattle.liberty_groups.specs.declared.tree.Value.{Value}
use Rattle.liberty_groups.specs.declared.tree.Item.{Item}
use Rattle.liberty_groups.specs.declared.tree.Item.TheVariants as item
use Rattle.liberty_groups.specs.declared.tree.Group.{Group, roll-Group}

abbrev pub text : List ℕ → Value
text bytes = record { bytes = bytes; quoted = true }

-- `name : "value";`
abbrev pub simple : List ℕ → List ℕ → Item
simple name value = item.Simple name (text value ∷ []) 0

-- `name ("argument");`
abbrev pub complex : List ℕ → List ℕ → Item
complex name argument = item.Complex name (text argument ∷ []) 0

-- `name (arguments) { items }`
abbrev pub group : List ℕ → List Value → List Item → Group
group name arguments items = roll-Group (record { name = name; arguments = arguments; items = items; at = 0 })

abbrev pub inner : List ℕ → List Value → List Item → Item
inner name arguments items = item.Inner (group name arguments items)

-- a pin with its direction and what more stands in it
unfoldable pub pin : List ℕ → List ℕ → List Item → Item
pin name direction more = inner (codes "pin") (text name ∷ []) (simple (codes "direction") direction ∷ more)

-- a table with one entry
unfoldable pub table : List ℕ → List ℕ → Item
table name entry = inner name (text (codes "scalar") ∷ []) (complex (codes "values") entry ∷ [])

-- a timing group of a related pin, with a table for rises and one for falls
unfoldable pub timing : List ℕ → List ℕ → Item → Item → Item
timing related kind rise fall =
    inner (codes "timing") [] (simple (codes "related_pin") related ∷ simple (codes "timing_type") kind ∷ rise ∷ fall ∷ [])
