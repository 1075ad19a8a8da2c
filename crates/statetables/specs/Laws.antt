use Rattle.std.specs.Prelude.{◌≡◌, ℕ, List, Ok}
use Rattle.statetables.specs.declared.table.StateTable.{StateTable}
use Rattle.statetables.specs.Reading.{table_of}
use Rattle.statetables.specs.Step.{IsRectangular}

-- A table that a text stands for has so many inputs and nodes as were asked for, and each of its rows has a symbol for
-- each of them.
abbrev pub TablesReadAreRectangular : Type 0
TablesReadAreRectangular = (text : List ℕ) (inputs nodes : ℕ) (table : StateTable) → table_of text inputs nodes ≡ Ok table
    → (table.inputs ≡ inputs) × (table.nodes ≡ nodes) × IsRectangular table
