-- The states of a cell with banks, as its statements stand (Liberty Reference Manual, `ff_bank` and `latch_bank` groups, and the
-- `ff`, `latch` and `statetable` groups).
use Rattle.std.specs.Prelude.{ℕ, List, [], ◌++◌, map, codes, unwrap_or, Option, Some, None, if◌then◌else◌}
use Rattle.liberty_groups.specs.declared.tree.Item.{Item, out-Item}
use Rattle.liberty_groups.specs.declared.tree.Item.TheOpen.{Item-F}
use Rattle.liberty_groups.specs.declared.tree.Item.TheOpen as layer
use Rattle.liberty_groups.specs.declared.tree.Group.{Group}
use Rattle.liberty_groups.specs.Attributes.{attribute_of}
use Rattle.cell_machine.specs.declared.groups.Both.TheVariants as both
use Rattle.cell_machine.specs.declared.groups.Clocked.{Clocked}
use Rattle.cell_machine.specs.declared.groups.Gated.{Gated}
use Rattle.cell_machine.specs.declared.groups.GroupKind.{GroupKind}
use Rattle.cell_machine.specs.declared.groups.GroupKind.TheVariants as kind
use Rattle.cell_machine.specs.declared.groups.StateGroup.{StateGroup}
use Rattle.cell_machine.specs.CellRules.{control_names, data_names}
use Rattle.cell_attributes.specs.Groups.{is_state}
use Rattle.cell_attributes.specs.States.{first_both, second_both}
use Rattle.cell_attributes.specs.Vocabulary.{Vocabulary}
use Rattle.cell_attributes.specs.StateReadings.{pins_among, state_reading}
use Rattle.cell_attributes.specs.Building.{groups_in}
use Rattle.bus_texts.specs.Vectors.{Bank, is_called, is_bank, bank_of, positions}
use Rattle.bank_machines.specs.BankTexts.{CellNames, function_if, function_or}

-- An `ff_bank` or `latch_bank` at a position: a flip-flop or latch with the bank's texts, as they are read there.
abbrev pub clocked_at : CellNames → Group → ℕ → Clocked
clocked_at cell bank at = record {
  next_state = function_or cell at (attribute_of bank (codes "next_state"));
  clocked_on = function_or cell at (attribute_of bank (codes "clocked_on"));
  clear = function_if cell at (attribute_of bank (codes "clear"));
  preset = function_if cell at (attribute_of bank (codes "preset"));
  both1 = unwrap_or (first_both bank) both.Unknown;
  both2 = unwrap_or (second_both bank) both.Unknown;
}

abbrev pub gated_at : CellNames → Group → ℕ → Gated
gated_at cell bank at = record {
  both1 = unwrap_or (first_both bank) both.Unknown;
  both2 = unwrap_or (second_both bank) both.Unknown;
  preset = function_if cell at (attribute_of bank (codes "preset"));
  clear = function_if cell at (attribute_of bank (codes "clear"));
  enable = function_if cell at (attribute_of bank (codes "enable"));
  data_in = function_if cell at (attribute_of bank (codes "data_in"));
}

abbrev pub kind_at : CellNames → Group → ℕ → GroupKind
kind_at cell bank at =
    if is_called (codes "ff_bank") bank then kind.Ff (clocked_at cell bank at) else kind.Latch (gated_at cell bank at)

-- Its inputs are the pins that stand in its texts at the position, ascending, where the cell has so many pins.
abbrev pub state_of_kind : ℕ → GroupKind → StateGroup
state_of_kind pins kind = record { kind = kind; support = pins_among pins (control_names kind ++ data_names kind) }

abbrev pub state_at : CellNames → ℕ → Group → ℕ → StateGroup
state_at cell pins bank at = state_of_kind pins (kind_at cell bank at)

-- A bank has a state at each of its positions.
abbrev pub states_along : CellNames → ℕ → Group → Option Bank → List StateGroup
states_along cell pins bank None = []
states_along cell pins bank (Some shape) = map (state_at cell pins bank) (positions shape.width)

-- The states that a statement of the cell makes: those of a bank, or those of a plain state group, which are read as in every
-- cell.
abbrev pub states_of_group : CellNames → Vocabulary → ℕ → Group → List StateGroup
states_of_group cell v pins group =
    if is_bank group then states_along cell pins group (bank_of group)
    else (if is_state group then groups_in cell.numbers group (state_reading v pins group) else [])

abbrev pub states_as : CellNames → Vocabulary → ℕ → Item-F Item Group → List StateGroup
states_as cell v pins (layer.Simple name value at) = []
states_as cell v pins (layer.Complex name arguments at) = []
states_as cell v pins (layer.Inner group) = states_of_group cell v pins group

abbrev pub states_made : CellNames → Vocabulary → ℕ → Item → List StateGroup
states_made cell v pins item = states_as cell v pins (out-Item item)
