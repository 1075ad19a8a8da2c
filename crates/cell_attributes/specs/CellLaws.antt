-- What it says of the states and outputs of a cell that none of their refusals is met: laws over the definitions.
use Rattle.std.specs.Prelude.{◌≡◌, ℕ, List, [], length, map, flat_map, IsTrue}
use Rattle.liberty_groups.specs.declared.tree.Group.{Group}
use Rattle.cell_machine.specs.declared.groups.StateGroup.{StateGroup}
use Rattle.cell_machine.specs.declared.outputs.OutputPin.{OutputPin}
use Rattle.cell_machine.specs.CellRules.{are_groups, are_outputs}
use Rattle.cell_attributes.specs.declared.texts.Text.{Text}
use Rattle.cell_attributes.specs.declared.state_readings.StateReading.{StateReading}
use Rattle.cell_attributes.specs.Groups.{pin_groups, state_groups}
use Rattle.cell_attributes.specs.Pins.{pins_of, owners_of}
use Rattle.cell_attributes.specs.States.{states_of}
use Rattle.cell_attributes.specs.Scans.{no_functions}
use Rattle.cell_attributes.specs.Declarations.{declared_of, clashes_after}
use Rattle.cell_attributes.specs.Vocabulary.{vocabulary}
use Rattle.cell_attributes.specs.Texts.{malformed_at, unknown_at}
use Rattle.cell_attributes.specs.StateReadings.{state_reading}
use Rattle.cell_attributes.specs.Outputs.{pin_text}
use Rattle.cell_attributes.specs.TextFaults.{malformed_in, unknown_in, coupled_in}
use Rattle.cell_attributes.specs.Building.{cell_numbers, groups_from, outputs_from}
use Rattle.cell_attributes.specs.Limits.{first_past, state_at, no_support_in, wide_support_in, wide_output}

-- what the groups of a cell that hold states say
abbrev pub readings_of : Group → List StateReading
readings_of cell = map (state_reading (vocabulary cell) (length (pins_of cell))) (state_groups cell)

-- the texts of the pin groups of a cell
abbrev pub texts_of : Group → List Text
texts_of cell = map (pin_text (vocabulary cell)) (pin_groups cell)

-- The numbers in a cell of the names that its texts name.
abbrev pub numbers_of : Group → List ℕ
numbers_of cell = cell_numbers (states_of cell) (length (pins_of cell)) (vocabulary cell)

abbrev pub groups_of : Group → List StateGroup
groups_of cell = groups_from (numbers_of cell) (state_groups cell) (readings_of cell)

abbrev pub outputs_of : Group → List OutputPin
outputs_of cell =
    outputs_from (vocabulary cell) (length (pins_of cell)) (groups_of cell) (numbers_of cell) 0 (owners_of cell)

-- No name is declared twice, each group that holds states and each text of a pin reads and names what it may, each
-- output has a function, and no limit on states and supports is passed.
pub record CellMeetsNone (cell : Group) : Type 0 where
  pub none_twice : clashes_after [] (declared_of cell) ≡ []
  pub states_read : flat_map malformed_in (readings_of cell) ≡ []
  pub states_known : flat_map unknown_in (readings_of cell) ≡ []
  pub states_apart : flat_map coupled_in (readings_of cell) ≡ []
  pub texts_read : flat_map malformed_at (texts_of cell) ≡ []
  pub texts_known : flat_map unknown_at (texts_of cell) ≡ []
  pub driven : no_functions cell ≡ []
  pub few_states : first_past 16 (flat_map state_at (state_groups cell)) ≡ []
  pub some_support : flat_map no_support_in (readings_of cell) ≡ []
  pub narrow_support : flat_map wide_support_in (readings_of cell) ≡ []
  pub narrow_outputs :
      flat_map (wide_output (vocabulary cell) (length (pins_of cell)) (groups_of cell) (numbers_of cell)) (owners_of cell) ≡ []

-- The state groups of such a cell keep the rules of cells.
abbrev pub GroupsKeepRules : Type 0
GroupsKeepRules = (cell : Group) → CellMeetsNone cell → IsTrue (are_groups (pins_of cell) (groups_of cell))

-- The outputs of such a cell keep the rules of cells.
abbrev pub OutputsKeepRules : Type 0
OutputsKeepRules =
    (cell : Group) → CellMeetsNone cell → IsTrue (are_outputs (pins_of cell) (groups_of cell) (outputs_of cell))
