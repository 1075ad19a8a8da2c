-- The primitives of a cell. They are numbered (this project's choice): groups in order, conditions in order, then outputs
-- with a support that is not empty, in order.
use Rattle.std.specs.Prelude.{◌<◌, ℕ, ◌+◌, Bool, true, nat_lt, List, ◌++◌, length, take, count_by, slice_index_or, codes, decimal}
use Rattle.std.specs.Prelude.{if◌then◌else◌}
use Rattle.trit_cubes.specs.declared.trits.Trit.{Trit}
use Rattle.cell_machine.specs.bool_functions.declared.tree.Node.{Node}
use Rattle.cell_machine.specs.bool_functions.declared.tree.Node.TheVariants as node
use Rattle.cell_machine.specs.bool_functions.Support.{support_of}
use Rattle.cell_machine.specs.declared.outputs.OutputPin.{OutputPin}
use Rattle.cell_machine.specs.Outputs.{condition_at}
use Rattle.udp_tables.specs.declared.table.Udp.{Udp}
use Rattle.udp_tables.specs.declared.parts.Part.{Part}
use Rattle.udp_tables.specs.declared.parts.Part.TheVariants as part
use Rattle.udp_tables.specs.PortNames.{output_name, input_names}
use Rattle.udp_tables.specs.Generated.{primitive_of}
use Rattle.udp_tables.specs.Sequential.{compact_rows}
use Rattle.cell_machine.specs.CellData.{CellData}
use Rattle.cell_machine.specs.CellTrace.{support_at, step_at, sources_at, output_value_at}
use Rattle.udp_tables.specs.Conditions.{conditions_of}

-- primitive j, from 1, of the cell with this number
abbrev pub primitive_name : ℕ → ℕ → List ℕ
primitive_name cell j = codes "lib_" ++ decimal cell ++ codes "_" ++ decimal j

-- whether the cell has checks; then its sequential primitives have a notifier as their last input
abbrev pub has_notifier : CellData → Bool
has_notifier cell = nat_lt 0 (length cell.checks)

abbrev pub group_number : ℕ → ℕ
group_number i = i + 1

-- how many inputs the primitive of group i has
abbrev pub group_inputs : CellData → ℕ → ℕ
group_inputs cell i = if has_notifier cell then length (support_at cell i) + 1 else length (support_at cell i)

-- The primitive of group i: its inputs are the pins of its support, and the notifier. Its rows are in compact form: two that
-- hold the state are one.
abbrev pub group_primitive : CellData → ℕ → Udp
group_primitive cell i =
    record {
      name = primitive_name cell.number (group_number i);
      output = output_name;
      inputs = input_names (group_inputs cell i);
      sequential = true;
      rows = compact_rows (has_notifier cell) (length (support_at cell i)) (step_at cell i);
    }

abbrev pub condition_number : CellData → ℕ → ℕ
condition_number cell i = length cell.groups + i + 1

-- condition i
abbrev pub condition_tree : CellData → ℕ → Node
condition_tree cell i = slice_index_or (conditions_of cell) i node.Zero

-- the primitive of a condition: its inputs are the pins that it names
abbrev pub condition_udp : List ℕ → Node → Udp
condition_udp name f = primitive_of name (length (support_of f)) (condition_at (support_of f) f)

-- the primitive of condition i
abbrev pub condition_primitive : CellData → ℕ → Udp
condition_primitive cell i =
    condition_udp (primitive_name cell.number (condition_number cell i)) (condition_tree cell i)

-- whether an output depends on anything
abbrev pub has_sources : OutputPin → Bool
has_sources output = nat_lt 0 (length output.support)

-- the number of output i, where it depends on anything
abbrev pub output_number : CellData → ℕ → ℕ
output_number cell i =
    length cell.groups + length (conditions_of cell) + count_by has_sources (take i cell.outputs) + 1

-- the primitive of output i: its inputs are the pins and states of its support
abbrev pub output_primitive : CellData → ℕ → Udp
output_primitive cell i =
    primitive_of (primitive_name cell.number (output_number cell i)) (length (sources_at cell i)) (output_value_at cell i)

-- the primitive of an output or a condition
abbrev pub part_primitive : CellData → Part → Udp
part_primitive cell (part.Output i) = output_primitive cell i
part_primitive cell (part.Condition i) = condition_primitive cell i

-- a part that the cell has, and, of an output, one that depends on anything
abbrev pub IsPart : CellData → Part → Type 0
IsPart cell (part.Output i) = (i < length cell.outputs) × (0 < length (sources_at cell i))
IsPart cell (part.Condition i) = i < length (conditions_of cell)

-- how many places the support of a part has
abbrev pub part_places : CellData → Part → ℕ
part_places cell (part.Output i) = length (sources_at cell i)
part_places cell (part.Condition i) = length (support_of (condition_tree cell i))

-- the value of a part at a point of its support
abbrev pub part_value : CellData → Part → List Bool → Trit
part_value cell (part.Output i) = output_value_at cell i
part_value cell (part.Condition i) = condition_at (support_of (condition_tree cell i)) (condition_tree cell i)
