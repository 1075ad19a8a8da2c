-- The text of tables, which constants hold. (IEEE 1076.4-2000, VitalTruthTableType, VitalStateTableType and the VITAL table
-- symbols; IEEE 1076-1993, 4.3.1.1 and 7.3.2.) The layout is this project's: a row a line, four spaces before it. A table of one
-- row has the row's index before it.
use Rattle.std.specs.Prelude.{ℕ, ◌+◌, ◌-◌, Bool, true, false, nat_eq, if◌then◌else◌, List, [], ◌∷◌, ◌++◌, length, count_by}
use Rattle.std.specs.Prelude.{take, codes, decimal}
use Rattle.trit_cubes.specs.declared.trits.Trit.{Trit}
use Rattle.trit_cubes.specs.declared.trits.Trit.TheVariants as trit
use Rattle.vital_models.specs.declared.table.Trits.{Trits}
use Rattle.vital_models.specs.declared.table.Trits.TheVariants as trits
use Rattle.vital_models.specs.declared.table.TruthRow.{TruthRow}
use Rattle.vital_models.specs.declared.table.TruthTable.{TruthTable}
use Rattle.vital_models.specs.declared.table.VSymbol.{VSymbol}
use Rattle.vital_models.specs.declared.table.VSymbol.TheVariants as symbol
use Rattle.vital_models.specs.declared.table.VNext.{VNext}
use Rattle.vital_models.specs.declared.table.VNext.TheVariants as next
use Rattle.vital_models.specs.declared.table.VStateRow.{VStateRow}
use Rattle.vital_models.specs.declared.model.VState.{VState}
use Rattle.vital_models.specs.declared.model.VTruth.{VTruth}
use Rattle.vital_models.specs.declared.model.OutValue.{OutValue}
use Rattle.vital_models.specs.declared.model.OutValue.TheVariants as value
use Rattle.vital_models.specs.declared.model.VOutput.{VOutput}
use Rattle.vital_models.specs.declared.model.VEntity.{VEntity}
use Rattle.vhdl_writer.specs.Joined.{numbered_texts}

-- a symbol between quotes (IEEE 1076-1993, 13.5)
abbrev pub quoted : ℕ → List ℕ
quoted symbol = codes "'" ++ symbol ∷ codes "'"

-- the symbol of what a row of a truth table gives
abbrev pub value_text : Trit → List ℕ
value_text trit.Zero = codes "'0'"
value_text trit.One = codes "'1'"
value_text trit.Unknown = codes "'X'"

-- the symbol of a level
abbrev pub level_text : Trits → List ℕ
level_text trits.Zero = value_text trit.Zero
level_text trits.One = value_text trit.One
level_text trits.Unknown = value_text trit.Unknown
level_text trits.Any = codes "'-'"
level_text trits.Binary = codes "'B'"

-- the symbol of a column of a state's table
abbrev pub symbol_text : VSymbol → List ℕ
symbol_text (symbol.Level level) = level_text level
symbol_text symbol.Steady = codes "'S'"
symbol_text symbol.Rise = codes "'/'"
symbol_text symbol.Fall = codes "'\\'"
symbol_text symbol.To1 = codes "'P'"
symbol_text symbol.To0 = codes "'N'"
symbol_text symbol.From0 = codes "'p'"
symbol_text symbol.From1 = codes "'n'"
symbol_text symbol.Change = codes "'*'"

-- the symbol of what a row of a state's table gives
abbrev pub next_text : VNext → List ℕ
next_text next.Zero = value_text trit.Zero
next_text next.One = value_text trit.One
next_text next.Unknown = value_text trit.Unknown
next_text next.Keep = codes "'S'"

-- what stands before the symbols of the row with this number, of so many rows
abbrev pub row_start : ℕ → ℕ → List ℕ
row_start count n = if nat_eq count 1 then codes "\n    0 => (" else (if nat_eq n 1 then codes "\n    (" else codes ",\n    (")

-- a symbol, and what separates it from the next one
unfoldable pub symbol_apart_text : ℕ → VSymbol → List ℕ
symbol_apart_text n s = symbol_text s ++ codes ", "

unfoldable pub level_apart_text : ℕ → Trits → List ℕ
level_apart_text n level = level_text level ++ codes ", "

-- a row of a state's table, of so many: its columns, its state, and what it gives
unfoldable pub state_row_text : ℕ → ℕ → VStateRow → List ℕ
state_row_text count n row =
    row_start count n
    ++ (numbered_texts symbol_apart_text 1 row.inputs
    ++ (level_text row.state ++ (codes ", " ++ (next_text row.result ++ codes ")"))))

-- a row of a truth table, of so many: its columns, and what it gives
unfoldable pub truth_row_text : ℕ → ℕ → TruthRow → List ℕ
truth_row_text count n row =
    row_start count n ++ (numbered_texts level_apart_text 1 row.inputs ++ (value_text row.result ++ codes ")"))

-- the rows of a truth table
unfoldable pub truth_rows_text : TruthTable → List ℕ
truth_rows_text table = numbered_texts (truth_row_text (length table.rows)) 1 table.rows

-- the rows of a state's table
unfoldable pub state_rows_text : VState → List ℕ
state_rows_text state = numbered_texts (state_row_text (length state.table.rows)) 1 state.table.rows

-- the constant of a table with this number: what it begins with, its type, and its rows
abbrev pub constant_text : List ℕ → ℕ → List ℕ → List ℕ → List ℕ
constant_text start n between rows = start ++ (decimal n ++ (between ++ (rows ++ codes ");\n")))

-- the constant of the table of a state with this number
unfoldable pub state_constant_text : ℕ → VState → List ℕ
state_constant_text n state =
    codes "  constant k_" ++ (decimal n ++ (codes " : VitalStateTableType := (" ++ (state_rows_text state ++ codes ");\n")))

-- the constant of the table of a condition with this number
unfoldable pub condition_constant_text : ℕ → VTruth → List ℕ
condition_constant_text n truth =
    codes "  constant c_" ++ (decimal n ++ (codes " : VitalTruthTableType := (" ++ (truth_rows_text truth.table ++ codes ");\n")))

-- whether a value is that of a table
abbrev pub has_table : OutValue → Bool
has_table (value.Constant one) = false
has_table (value.Table table inputs) = true

-- whether an output has a table
unfoldable pub is_looked_up : VOutput → Bool
is_looked_up output = has_table output.value

-- The number of the table of the output with this number: behind the tables of the states and of the outputs before it.
abbrev pub table_number : VEntity → ℕ → ℕ
table_number e n = length e.states + (count_by is_looked_up (take (n - 1) e.outputs) + 1)

-- the constant of a table of the output with this number
unfoldable pub output_table_text : VEntity → ℕ → TruthTable → List ℕ
output_table_text e n table =
    codes "  constant k_" ++ (decimal (table_number e n)
    ++ (codes " : VitalTruthTableType := (" ++ (truth_rows_text table ++ codes ");\n")))

-- the constant of the table of an output, where it has one
abbrev pub value_constant_text : VEntity → ℕ → OutValue → List ℕ
value_constant_text e n (value.Constant one) = []
value_constant_text e n (value.Table table inputs) = output_table_text e n table

abbrev pub output_constant_text : VEntity → ℕ → VOutput → List ℕ
output_constant_text e n output = value_constant_text e n output.value

-- the constants: the tables of the states, of the conditions, and of the outputs that have one
unfoldable pub constants_text : VEntity → List ℕ
constants_text e =
    numbered_texts state_constant_text 1 e.states
    ++ (numbered_texts condition_constant_text 1 e.conditions ++ numbered_texts (output_constant_text e) 1 e.outputs)
