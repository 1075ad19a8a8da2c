-- The pins that a bus or bundle makes, as they stand (Liberty Reference Manual, `bus` and `bundle` groups, and the `pin` groups
-- in them).
use Rattle.std.specs.Prelude.{ℕ, Bool, not, ◌&&◌, List, []}
use Rattle.std.specs.Prelude.{◌++◌, filter, flat_map, codes, bytes_eq, slice_get}
use Rattle.std.specs.Prelude.{Option, Some, None, if◌then◌else◌}
use Rattle.std.specs.List.{list_any}
use Rattle.liberty_groups.specs.declared.tree.Value.{Value}
use Rattle.liberty_groups.specs.declared.tree.Item.{Item, out-Item}
use Rattle.liberty_groups.specs.declared.tree.Item.TheOpen.{Item-F}
use Rattle.liberty_groups.specs.declared.tree.Item.TheOpen as layer
use Rattle.liberty_groups.specs.declared.tree.Group.{Group}
use Rattle.liberty_groups.specs.Attributes.{groups_named}
use Rattle.bus_texts.specs.declared.vectors.Vector.{Vector}
use Rattle.bus_texts.specs.Vectors.{is_called}
use Rattle.bank_refusals.specs.Ranges.{names_bit}

-- An inner pin's argument names the member at a position: by its bit, or, in a bundle, by its name.
abbrev pub names_bit_or : List ℕ → List ℕ → Option ℕ → List ℕ → Bool
names_bit_or name member None argument = bytes_eq argument member
names_bit_or name member (Some bit) argument = names_bit name bit argument

abbrev pub names_member : Vector → ℕ → List ℕ → Value → Bool
names_member vector at member argument = names_bit_or vector.name member (slice_get vector.bits at) argument.bytes

-- The statements of a bus or bundle that each of its members has.
abbrev pub is_shared_as : Item-F Item Group → Bool
is_shared_as (layer.Simple name value at) = not (bytes_eq name (codes "bus_type"))
is_shared_as (layer.Complex name arguments at) = not (bytes_eq name (codes "members"))
is_shared_as (layer.Inner group) = not (is_called (codes "pin") group)

abbrev pub is_shared : Item → Bool
is_shared item = is_shared_as (out-Item item)

-- The inner pins of a bus or bundle with these statements.
abbrev pub inner_pins : List Item → List Group
inner_pins items = groups_named (codes "pin") items

-- The statements of an inner pin that names the member.
abbrev pub inner_pin_items : Vector → ℕ → List ℕ → Group → List Item
inner_pin_items vector at member group =
    if is_called (codes "pin") group && list_any (names_member vector at member) group.arguments then group.items else []

abbrev pub own_items_as : Vector → ℕ → List ℕ → Item-F Item Group → List Item
own_items_as vector at member (layer.Simple name value offset) = []
own_items_as vector at member (layer.Complex name arguments offset) = []
own_items_as vector at member (layer.Inner group) = inner_pin_items vector at member group

abbrev pub own_items : Vector → ℕ → List ℕ → Item → List Item
own_items vector at member item = own_items_as vector at member (out-Item item)

-- The statements of a member as they stand: those of the bus or bundle, and behind them its own.
abbrev pub member_items : Group → Vector → ℕ → List ℕ → List Item
member_items group vector at member = filter is_shared group.items ++ flat_map (own_items vector at member) group.items
