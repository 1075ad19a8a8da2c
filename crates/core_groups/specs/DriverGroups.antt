-- The delays of three-state outputs (Liberty Reference Manual, `timing_type`: `three_state_enable` and `three_state_disable`).
use Rattle.std.specs.Prelude.{ℕ, Bool, true, not, ◌||◌, List, [], map, filter, codes, bytes_eq, is_some, if◌then◌else◌}
use Rattle.liberty_groups.specs.declared.tree.Item.{Item, out-Item}
use Rattle.liberty_groups.specs.declared.tree.Item.TheOpen.{Item-F}
use Rattle.liberty_groups.specs.declared.tree.Item.TheOpen as layer
use Rattle.liberty_groups.specs.declared.tree.Item.TheVariants as item
use Rattle.liberty_groups.specs.declared.tree.Group.{Group, roll-Group}
use Rattle.liberty_groups.specs.Attributes.{attribute_of}
use Rattle.timing_arcs.specs.Timing.{timing_groups}
use Rattle.cell_attributes.specs.Declarations.{says}

-- whether this is the type of a timing group
abbrev pub has_type : List ℕ → Group → Bool
has_type word group = says word (attribute_of group (codes "timing_type"))

-- Whether a timing group is left out whatever else it says: a driver has no delay of its own to Z and no condition. (This
-- project's rule.)
abbrev pub is_unread : Group → Bool
is_unread group = has_type (codes "three_state_disable") group || is_some (attribute_of group (codes "when"))

-- all statements but those of the type
abbrev pub is_no_type : Item-F Item Group → Bool
is_no_type (layer.Simple name value at) = not (bytes_eq name (codes "timing_type"))
is_no_type (layer.Complex name arguments at) = true
is_no_type (layer.Inner group) = true

-- What is read of a timing group: nothing, all of it without its type, which makes it `combinational`, or all of it.
abbrev pub read_items : Group → List Item
read_items group =
    if is_unread group then []
    else (if has_type (codes "three_state_enable") group
    then filter (λ item. is_no_type (out-Item item)) group.items
    else group.items)

-- The timing group of a three-state output as it is read. One of which nothing is read makes nothing and is left out, since it
-- has no table.
abbrev pub driver_timing : Group → Group
driver_timing group =
    roll-Group (record { name = group.name; arguments = group.arguments; items = read_items group; at = group.at })

abbrev pub driver_item : Group → Item
driver_item group = item.Inner (driver_timing group)

-- The pin group of three-state outputs as their delays are read: its timing groups, each as it is read.
unfoldable pub driver_pin : Group → Group
driver_pin pin =
    roll-Group (record { name = pin.name; arguments = pin.arguments; items = map driver_item (timing_groups pin); at = pin.at })
