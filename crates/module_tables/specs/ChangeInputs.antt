-- How many inputs a primitive has whose rows are looked up.
use Rattle.std.specs.Prelude.{ℕ, length, Option, Some, None}
use Rattle.row_selection.specs.declared.change_rows.ChangeRows.{ChangeRows}
use Rattle.module_tables.specs.declared.keyed_rows.KeyedRows.{KeyedRows}

-- the inputs of the primitive of the rows that are selected for a change of one of them, where there are some; else this number
abbrev pub input_count : ℕ → Option ChangeRows → ℕ
input_count n None = n
input_count n (Some r) = length r.udp.now.inputs

-- the same of a primitive without a state
abbrev pub level_inputs : ℕ → Option KeyedRows → ℕ
level_inputs n None = n
level_inputs n (Some r) = length r.udp.now.inputs
