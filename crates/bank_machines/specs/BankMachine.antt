-- The bank machine of a cell: for each bank a list of states, one for each position. A state of a bank takes the step of a
-- flip-flop or latch with the bank's texts as they stand, read at its position, and a bit of a bus has the value of the bus's
-- text read at its position. Plain states, the outputs of scalar pins and the reports of checks are those of the expanded cell,
-- since a check stands at pins of the expanded cell alone.
use Rattle.std.specs.Prelude.{ℕ, ◌+◌, ◌*◌, List, [], ◌∷◌, length, map, flat_map, Option, None}
use Rattle.liberty_groups.specs.declared.tree.Group.{Group}
use Rattle.trit_cubes.specs.declared.trits.Trit.{Trit}
use Rattle.cell_machine.specs.declared.groups.StateGroup.{StateGroup}
use Rattle.cell_machine.specs.declared.outputs.OutputPin.{OutputPin}
use Rattle.cell_machine.specs.declared.changes.Change.{Change}
use Rattle.cell_machine.specs.CellData.{CellData}
use Rattle.cell_machine.specs.History.{inputs_after}
use Rattle.cell_machine.specs.CellTrace.{inputs_of, NamedGroup, named_from, state_after, output_value, reports_of, delay_at}
use Rattle.cell_machine.specs.Lines.{Line, shown_line, trace}
use Rattle.cell_attributes.specs.Pins.{pins_of}
use Rattle.cell_attributes.specs.Vocabulary.{vocabulary}
use Rattle.cell_attributes.specs.CellLaws.{numbers_of}
use Rattle.bus_texts.specs.declared.bus_types.BusType.{BusType}
use Rattle.bus_texts.specs.Vectors.{cell_vectors}
use Rattle.bank_cells.specs.Expanded.{expanded}
use Rattle.bank_machines.specs.BankTexts.{CellNames}
use Rattle.bank_machines.specs.BankStates.{states_made}
use Rattle.bank_machines.specs.BankOutputs.{pins_made, outputs_among}

-- all of several lists, one behind another
abbrev pub joined : {A : Type 0} → List (List A) → List A
joined lists = flat_map (λ list. list) lists

-- What the machine runs: for each statement of the cell the states that it makes, and the outputs.
pub record BankCell : Type 0 where
  pub states : List (List StateGroup)
  pub outputs : List OutputPin

-- the names of a cell, where this is its expanded group
abbrev pub names_with : List BusType → Group → Group → CellNames
names_with types cell single =
    record { vectors = cell_vectors types cell; names = (vocabulary single).names; numbers = numbers_of single }

-- the lists of states of a cell, one for each of its statements, where this is its expanded group
abbrev pub state_lists : List BusType → Group → Group → List (List StateGroup)
state_lists types cell single =
    map (states_made (names_with types cell single) (vocabulary single) (length (pins_of single))) cell.items

-- The states and the outputs of a cell as its statements stand.
abbrev pub bank_cell_with : List BusType → Group → Group → BankCell
bank_cell_with types cell single = record {
  states = state_lists types cell single;
  outputs =
      outputs_among (names_with types cell single) (vocabulary single) (length (pins_of single))
      (joined (state_lists types cell single)) 0 (flat_map (pins_made types) cell.items);
}

abbrev pub bank_cell : List BusType → Group → BankCell
bank_cell types cell = bank_cell_with types cell (expanded types cell)

-- the states with their numbers in the cell, where the first has this number
abbrev pub named_lists : ℕ → List (List StateGroup) → List (List NamedGroup)
named_lists number [] = []
named_lists number (states ∷ more) = named_from number states ∷ named_lists (number + 2 * length states) more

-- The states after a history, a list for each statement of the cell: of a bank one state for each position. Each begins at X. At
-- an event it takes the step of its flip-flop or latch, or the forced value where a check of the expanded cell reports.
abbrev pub bank_states_after : CellData → BankCell → List Change → List (List Trit)
bank_states_after single bank h = map (map (state_after single h)) (named_lists (length single.pins) bank.states)

-- The value of an output after a history, of the values of the inputs and of these states.
abbrev pub bank_output_after : CellData → BankCell → List Change → OutputPin → Trit
bank_output_after single bank h output =
    output_value single.pins (joined bank.states) (inputs_after (inputs_of single) h)
    (joined (bank_states_after single bank h)) output

-- the delay of an output at the newest change, where it changes there: that of the expanded cell's arcs
abbrev pub bank_delay_after : CellData → BankCell → List Change → OutputPin → Option ℕ
bank_delay_after single bank [] output = None
bank_delay_after single bank (c ∷ h) output =
    delay_at single.pins single.arcs (inputs_after (inputs_of single) (c ∷ h)) c output
    (bank_output_after single bank h output) (bank_output_after single bank (c ∷ h) output)

-- What the bank machine shows after a history, and on changes, the oldest first.
abbrev pub bank_line : CellData → BankCell → List Change → Line
bank_line single bank = shown_line bank.outputs (bank_output_after single bank) (bank_delay_after single bank) (reports_of single)

abbrev pub bank_trace : CellData → BankCell → List Change → List Line
bank_trace single bank = trace (bank_line single bank)
