-- The test cell of a scan cell, and what of it is read (Liberty Reference Manual, `test_cell` group). A `test_cell` group in
-- the group of a scan cell says what the cell does out of test: it holds the `ff` or `latch` groups of that, and the cell's
-- pins with their directions, their functions and, by `signal_type`, what they are for in test.
use Rattle.std.specs.Prelude.{ℕ, Bool, true, false, not, ◌||◌, List, [], ◌∷◌, map, filter, codes, bytes_eq, Option}
use Rattle.liberty_groups.specs.declared.tree.Value.{Value}
use Rattle.liberty_groups.specs.declared.tree.Item.{Item, out-Item}
use Rattle.liberty_groups.specs.declared.tree.Item.TheOpen.{Item-F}
use Rattle.liberty_groups.specs.declared.tree.Item.TheOpen as layer
use Rattle.liberty_groups.specs.declared.tree.Item.TheVariants as item
use Rattle.liberty_groups.specs.declared.tree.Group.{Group, roll-Group}
use Rattle.liberty_groups.specs.Attributes.{groups_named, first_of}
use Rattle.group_copies.specs.Copies.{with_items}
use Rattle.cell_attributes.specs.Groups.{inner_groups}

-- The test cell of a cell: of several `test_cell` groups the first. (This project's rule.)
abbrev pub test_of : Group → Option Group
test_of cell = first_of (groups_named (codes "test_cell") cell.items)

-- The attributes of a pin that say a time. (Liberty Reference Manual, `min_pulse_width_high`, `min_pulse_width_low` and
-- `min_period`.)
abbrev pub is_time : List ℕ → Bool
is_time name =
    bytes_eq name (codes "min_pulse_width_high")
    || (bytes_eq name (codes "min_pulse_width_low") || bytes_eq name (codes "min_period"))

-- What a group of the test cell says of behaviour stands in its attributes, but for those that say a time. The groups in
-- it are skipped: in a pin they say times and powers. (This project's rule.)
abbrev pub is_kept : Item-F Item Group → Bool
is_kept (layer.Simple name value at) = not (is_time name)
is_kept (layer.Complex name arguments at) = true
is_kept (layer.Inner group) = false

-- a group with what is kept of its statements
abbrev pub untimed : Group → Group
untimed group = with_items group (filter (λ item. is_kept (out-Item item)) group.items)

abbrev pub untimed_item : Group → Item
untimed_item group = item.Inner (untimed group)

-- a name as the arguments of a group
abbrev pub name_value : List ℕ → Value
name_value name = record { bytes = name; quoted = true }

-- A test cell as the group of a cell with this name: its groups, each with what is kept of it.
abbrev pub view_group : List ℕ → Group → Group
view_group name test =
    roll-Group (record {
      name = codes "cell";
      arguments = name_value name ∷ [];
      items = map untimed_item (inner_groups test.items);
      at = test.at;
    })
