-- What the machine of an expanded cell has to do with the cell's banks.
use Rattle.std.specs.Prelude.{◌≡◌, ℕ, Bool, List, [], ◌∷◌, map, Option, None}
use Rattle.liberty_text.specs.declared.time.Unit.{Unit}
use Rattle.liberty_groups.specs.declared.tree.Group.{Group}
use Rattle.bool_functions.specs.Tree.{value_of}
use Rattle.cell_machine.specs.declared.changes.Change.{Change}
use Rattle.cell_machine.specs.CellData.{CellData}
use Rattle.cell_machine.specs.CellTrace.{states_after, output_after, cell_trace}
use Rattle.cell_reader.specs.CellTexts.{subject_of}
use Rattle.cell_reader.specs.Refusals.{refusal_of}
use Rattle.three_state_cells.specs.CoreGroups.{core_group}
use Rattle.three_state_cells.specs.Outputs.{ThreeStateOutput, three_state_outputs}
use Rattle.three_state_cells.specs.Refusals.{driven_refusal}
use Rattle.three_state_cells.specs.DrivenCells.{cell_data, driven_data}
use Rattle.bus_texts.specs.declared.bus_types.BusType.{BusType}
use Rattle.bank_cells.specs.Expanded.{expanded}
use Rattle.bank_cells.specs.Refusals.{bank_refusal}
use Rattle.bank_machines.specs.BankTexts.{CellNames, function_at, value_at}
use Rattle.bank_machines.specs.BankCores.{bank_core}
use Rattle.bank_machines.specs.BankMachine.{BankCell, joined, bank_cell, bank_states_after, bank_output_after, bank_trace}

-- The function of a text at a position has, at all values of the names of the cell, the value of the text there.
abbrev pub BankTextsHaveValues : Type 0
BankTextsHaveValues =
    (cell : CellNames) (at : ℕ) (text : List ℕ) (values : List Bool)
    → value_of values (function_at cell at text) ≡ value_at cell at text values

-- After each history of its inputs the expanded cell has the states of the bank machine, one list behind another, and the values
-- of its outputs. On changes of its inputs it shows what the bank machine shows.
pub record RunsAs (single : CellData) (bank : BankCell) : Type 0 where
  pub states : (h : List Change) → states_after single h ≡ joined (bank_states_after single bank h)
  pub outputs :
      (h : List Change) → map (output_after single h) single.outputs ≡ map (bank_output_after single bank h) bank.outputs
  pub traces : (changes : List Change) → cell_trace single changes ≡ bank_trace single bank changes

-- The expanded cell of every cell that is accepted runs, bit by bit, as the bank machine.
abbrev pub BankMachineIsExpandedCell : Type 0
BankMachineIsExpandedCell =
    (types : List BusType) (cell : Group) (unit : Option Unit) (earlier : List (List ℕ)) (name : List ℕ) (number : ℕ)
    → bank_refusal types cell ≡ None
    → refusal_of (subject_of unit (expanded types cell)) earlier (expanded types cell) ≡ None
    → RunsAs (cell_data unit name number (expanded types cell)) (bank_cell types cell)

-- So does the core of the expanded cell of every cell, some of whose outputs may float, that is accepted.
abbrev pub BankMachineIsExpandedCore : Type 0
BankMachineIsExpandedCore =
    (types : List BusType) (cell : Group) (unit : Option Unit) (earlier : List (List ℕ)) (name : List ℕ) (number : ℕ)
    → bank_refusal types cell ≡ None
    → refusal_of (subject_of unit (core_group (expanded types cell))) earlier (core_group (expanded types cell)) ≡ None
    → RunsAs (cell_data unit name number (core_group (expanded types cell))) (bank_core types cell)

-- What the bank machine of an accepted cell runs, where its expanded group has these three-state outputs.
abbrev pub bank_by : List BusType → Group → List ThreeStateOutput → BankCell
bank_by types cell [] = bank_cell types cell
bank_by types cell (output ∷ outputs) = bank_core types cell

-- Both together: what is read of the expanded group of a cell, where nothing refuses either, runs as the bank machine of the
-- cell.
abbrev pub AcceptedCellsRunAsBanks : Type 0
AcceptedCellsRunAsBanks =
    (types : List BusType) (cell : Group) (unit : Option Unit) (earlier : List (List ℕ)) (number : ℕ)
    → bank_refusal types cell ≡ None → driven_refusal unit earlier (expanded types cell) ≡ None
    → RunsAs (driven_data unit number (expanded types cell)).core (bank_by types cell (three_state_outputs (expanded types cell)))
