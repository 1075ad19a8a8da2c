-- The expanded group of a cell in which neighbouring pins of a bus or bundle are one pin group with all their names, where they
-- have the same statements.
use Rattle.std.specs.Prelude.{List, [], ◌∷◌, flat_map}
use Rattle.std.specs.Prelude.{if◌then◌else◌}
use Rattle.liberty_groups.specs.declared.tree.Item.{Item, out-Item}
use Rattle.liberty_groups.specs.declared.tree.Item.TheOpen.{Item-F}
use Rattle.liberty_groups.specs.declared.tree.Item.TheOpen as layer
use Rattle.liberty_groups.specs.declared.tree.Item.TheVariants as made
use Rattle.liberty_groups.specs.declared.tree.Group.{Group, roll-Group}
use Rattle.bus_texts.specs.declared.bus_types.BusType.{BusType}
use Rattle.bus_texts.specs.declared.vectors.Vector.{Vector}
use Rattle.bus_texts.specs.Vectors.{is_bank, pin_vectors, cell_vectors}
use Rattle.bank_refusals.specs.Refusals.{is_pins, has_many}
use Rattle.bank_cells.specs.Expanded.{bank_states, single_group}
use Rattle.bank_cells.specs.Runs.{members_of, pins_of}

-- What stands in the place of a statement of a cell.
abbrev pub gathered_group : List BusType → List Vector → Group → List Item
gathered_group types vectors group =
    if is_pins group then pins_of vectors group (members_of (pin_vectors types group))
    else (if is_bank group then bank_states vectors group else single_group vectors group)

abbrev pub gathered_as : List BusType → List Vector → Item-F Item Group → List Item
gathered_as types vectors (layer.Simple name value at) = made.Simple name value at ∷ []
gathered_as types vectors (layer.Complex name arguments at) = made.Complex name arguments at ∷ []
gathered_as types vectors (layer.Inner group) = gathered_group types vectors group

abbrev pub gathered_item : List BusType → List Vector → Item → List Item
gathered_item types vectors item = gathered_as types vectors (out-Item item)

abbrev pub gathered_cell : List BusType → Group → Group
gathered_cell types cell =
    roll-Group (record {
      name = cell.name;
      arguments = cell.arguments;
      items = flat_map (gathered_item types (cell_vectors types cell)) cell.items;
      at = cell.at;
    })

-- One without buses, bundles and banks stays as it is.
unfoldable pub gathered : List BusType → Group → Group
gathered types cell = if has_many cell then gathered_cell types cell else cell
