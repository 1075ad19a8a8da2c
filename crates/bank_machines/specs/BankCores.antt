-- The core of a cell with buses, bundles and banks some of whose outputs may float, as its statements stand (Liberty Reference
-- Manual, `three_state`). It has, behind the outputs of the cell, one more for each output that may float: it is 1 where that
-- does not.
use Rattle.std.specs.Prelude.{ℕ, ◌+◌, List, [], ◌∷◌, ◌++◌, length, flat_map, Option, Some, None, if◌then◌else◌}
use Rattle.liberty_groups.specs.declared.tree.Group.{Group}
use Rattle.liberty_groups.specs.Attributes.{Attribute}
use Rattle.bool_functions.specs.declared.tree.Node.{Node}
use Rattle.bool_functions.specs.declared.tree.Node.TheVariants as tree
use Rattle.cell_machine.specs.declared.groups.StateGroup.{StateGroup}
use Rattle.cell_machine.specs.declared.outputs.OutputPin.{OutputPin}
use Rattle.cell_attributes.specs.declared.texts.Scope.TheVariants as scope
use Rattle.cell_attributes.specs.Pins.{pins_of}
use Rattle.cell_attributes.specs.Texts.{text_as}
use Rattle.cell_attributes.specs.Vocabulary.{Vocabulary, vocabulary}
use Rattle.cell_attributes.specs.Building.{function_of}
use Rattle.three_state_cells.specs.Outputs.{three_state_of, is_three_state}
use Rattle.three_state_cells.specs.CoreGroups.{enable_function, core_group}
use Rattle.bus_texts.specs.declared.bus_types.BusType.{BusType}
use Rattle.bank_cells.specs.Expanded.{expanded}
use Rattle.bank_machines.specs.BankTexts.{CellNames, function_at}
use Rattle.bank_machines.specs.BankOutputs.{WrittenPin, output_by, pins_made}
use Rattle.bank_machines.specs.BankMachine.{BankCell, joined, names_with, state_lists, bank_cell_with}

-- Where an output does not float: for a bit of a bus or bundle where its `three_state`, read at its position, is 0; for a scalar
-- pin as in every cell.
abbrev pub enabled_by : CellNames → Vocabulary → Option ℕ → Attribute → Node
enabled_by cell v None floats =
    function_of cell.numbers (text_as v scope.Function (Some (record { text = enable_function floats.text; at = floats.at })))
enabled_by cell v (Some at) floats = tree.Not (function_at cell at floats.text)

abbrev pub enable_with : CellNames → Vocabulary → ℕ → List StateGroup → ℕ → Option ℕ → Option Attribute → List OutputPin
enable_with cell v pins states number position None = []
enable_with cell v pins states number position (Some floats) =
    output_by pins states number (enabled_by cell v position floats) ∷ []

abbrev pub enable_of : CellNames → Vocabulary → ℕ → List StateGroup → ℕ → WrittenPin → List OutputPin
enable_of cell v pins states number pin =
    if is_three_state pin.group then enable_with cell v pins states number pin.position (three_state_of pin.group) else []

-- Those of all pins, of which the first has this number.
abbrev pub enables_among : CellNames → Vocabulary → ℕ → List StateGroup → ℕ → List WrittenPin → List OutputPin
enables_among cell v pins states number [] = []
enables_among cell v pins states number (pin ∷ more) =
    enable_of cell v pins states number pin
    ++ enables_among cell v pins states (if is_three_state pin.group then number + 1 else number) more

-- The states and the outputs of the core, where this is the group of the core of the expanded cell.
abbrev pub bank_core_with : List BusType → Group → Group → BankCell
bank_core_with types cell core = record {
  states = (bank_cell_with types cell core).states;
  outputs =
      (bank_cell_with types cell core).outputs
      ++ enables_among (names_with types cell core) (vocabulary core) (length (pins_of core))
      (joined (state_lists types cell core)) (length (flat_map (pins_made types) cell.items))
      (flat_map (pins_made types) cell.items);
}

abbrev pub bank_core : List BusType → Group → BankCell
bank_core types cell = bank_core_with types cell (core_group (expanded types cell))
