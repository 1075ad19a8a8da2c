-- The grammar of tables in VHDL text: the constants of an architecture. (IEEE 1076.4-2000, the VITAL table types and symbols;
-- IEEE 1076-1993, 4.3.1.1, constants, and 7.3.2, aggregates.)
use Rattle.std.specs.Prelude.{ℕ, ◌+◌, ◌-◌, Bool, true, false, ◌&&◌, nat_eq, nat_lt, if◌then◌else◌, List, [], ◌∷◌, ◌++◌, length}
use Rattle.std.specs.Prelude.{take, slice_get, Option, Some, None, codes}
use Rattle.std.specs.List.{list_any}
use Rattle.std.specs.Option.{option_and_then}
use Rattle.std.specs.Str.{bytes_eq}
use Rattle.grammar_rules.specs.Rule.{Verdict, Fits, Foul, Misfit}
use Rattle.grammar_rules.specs.Rule as r
use Rattle.trit_cubes.specs.declared.trits.Trit.{Trit}
use Rattle.trit_cubes.specs.declared.trits.Trit.TheVariants as trit
use Rattle.vital_tables.specs.declared.table.Trits.{Trits}
use Rattle.vital_tables.specs.declared.table.Trits.TheVariants as trits
use Rattle.vital_tables.specs.declared.table.TruthRow.{TruthRow}
use Rattle.vital_tables.specs.declared.table.TruthTable.{TruthTable}
use Rattle.vital_tables.specs.declared.table.VSymbol.{VSymbol}
use Rattle.vital_tables.specs.declared.table.VSymbol.TheVariants as symbol
use Rattle.vital_tables.specs.declared.table.VNext.{VNext}
use Rattle.vital_tables.specs.declared.table.VNext.TheVariants as next
use Rattle.vital_tables.specs.declared.table.VStateRow.{VStateRow}
use Rattle.vital_tables.specs.declared.table.VStateTable.{VStateTable}
use Rattle.grammar_reader.specs.declared.refusal.Refusal.{Refusal}
use Rattle.grammar_reader.specs.declared.refusal.Refusal.TheVariants.{Syntax, TwoEdges, Width}
use Rattle.grammar_reader.specs.Words.{Grammar, ◌>>=◌, valued}
use Rattle.grammar_reader.specs.WordValues.{value_among}
use Rattle.vhdl_tokens.specs.Spelling.{is_same}
use Rattle.vhdl_grammar.specs.declared.scope.Tables.{Tables}
use Rattle.vhdl_grammar.specs.VhdlRules.{expect, begins, known, numbered, elements}

-- The token behind the entries of a row. They have to be a row, and it breaks a strict rule unless it is as long as the first
-- one.
abbrev pub row_end : {R : Type 0} → (R → Bool) → Option R → List ℕ → Verdict R Refusal
row_end is_as_long None x = Misfit Syntax
row_end is_as_long (Some row) x = if is_same x (codes ")") then (if is_as_long row then Fits row else Foul Width row)
    else Misfit Syntax

-- the row behind these is as long as the first of them, by how many inputs a row has
abbrev pub is_as_long : {R : Type 0} → (R → ℕ) → List R → R → Bool
is_as_long input_count [] row = true
is_as_long input_count (first ∷ rows) row = nat_eq (input_count row) (input_count first)

-- ENTRY { "," ENTRY }, each behind those before it
abbrev pub entries : {E : Type 0} → (List E → Grammar (List E)) → Grammar (List E)
entries entry = entry [] >>= λ first. r.Many (λ _. begins (codes ",")) (λ found _. entry found) first

-- "(" ENTRIES ")", a row behind these rows
abbrev pub row_by : {E R : Type 0} → Grammar (List E) → (List E → Option R) → (R → Bool) → List R → Grammar (List R)
row_by entries row_of is_as_long rows = do
  _ ← expect (codes "(")
  all ← entries
  row ← r.Token (row_end is_as_long (row_of all)) Syntax
  r.Gives (rows ++ row ∷ [])

-- "(" ROWS ")", a table of rows
abbrev pub table_of : {R T : Type 0} → (List R → Grammar (List R)) → (List R → T) → Grammar T
table_of row table = do
  _ ← expect (codes "(")
  rows ← elements row []
  _ ← expect (codes ")")
  r.Gives (table rows)

-- the level that a symbol stands for
abbrev pub level_of : List ℕ → Option Trits
level_of = value_among bytes_eq ((codes "'0'", trits.Zero) ∷ (codes "'1'", trits.One) ∷ (codes "'X'", trits.Unknown)
    ∷ (codes "'-'", trits.Any) ∷ (codes "'B'", trits.Binary) ∷ [])

-- what a symbol stands for in a table of a state, where it is no level
abbrev pub change_of : List ℕ → Option VSymbol
change_of = value_among bytes_eq ((codes "'S'", symbol.Steady) ∷ (codes "'/'", symbol.Rise) ∷ (codes "'\\'", symbol.Fall)
    ∷ (codes "'P'", symbol.To1) ∷ (codes "'N'", symbol.To0) ∷ (codes "'p'", symbol.From0) ∷ (codes "'n'", symbol.From1)
    ∷ (codes "'*'", symbol.Change) ∷ [])

abbrev pub symbol_by : List ℕ → Option Trits → Option VSymbol
symbol_by x (Some level) = Some (symbol.Level level)
symbol_by x None = change_of x

-- what a symbol stands for in a table of a state
abbrev pub symbol_of : List ℕ → Option VSymbol
symbol_of x = symbol_by x (level_of x)

-- whether a symbol is an edge
abbrev pub is_edge : VSymbol → Bool
is_edge (symbol.Level level) = false
is_edge symbol.Steady = false
is_edge _ = true

-- what a symbol of a row says behind these. A second edge breaks a strict rule.
abbrev pub next_by : List VSymbol → Option VSymbol → Verdict VSymbol Refusal
next_by symbols None = Misfit Syntax
next_by symbols (Some s) = if is_edge s && list_any is_edge symbols then Foul TwoEdges s else Fits s

-- a symbol of a row of a state's table, behind these
unfoldable pub next_symbol : List VSymbol → Grammar (List VSymbol)
next_symbol symbols = do
  s ← r.Token (λ x. next_by symbols (symbol_of x)) Syntax
  r.Gives (symbols ++ s ∷ [])

-- SYMBOL { "," SYMBOL }
unfoldable pub symbols : Grammar (List VSymbol)
symbols = entries next_symbol

-- the state column of a row is a level
abbrev pub state_in : VSymbol → Option Trits
state_in (symbol.Level level) = Some level
state_in _ = None

-- what a row of a state's table gives
abbrev pub next_at : Trits → Option VNext
next_at trits.Zero = Some next.Zero
next_at trits.One = Some next.One
next_at trits.Unknown = Some next.Unknown
next_at trits.Any = None
next_at trits.Binary = None

abbrev pub next_in : VSymbol → Option VNext
next_in (symbol.Level level) = next_at level
next_in symbol.Steady = Some next.Keep
next_in _ = None

abbrev pub state_row_with : List VSymbol → Option Trits → Option VNext → Option VStateRow
state_row_with inputs (Some state) (Some result) = Some (record { inputs = inputs; state = state; result = result })
state_row_with inputs _ _ = None

-- The row of these symbols, of which there are n more than two: the last is what it gives, and the last but one its state. The
-- others are its inputs, of which there is at least one.
abbrev pub state_row_of : List VSymbol → Option VStateRow
state_row_of all =
    if nat_lt 2 (length all) then
    state_row_with (take (length all - 2) all) (option_and_then state_in (slice_get all (length all - 2)))
    (option_and_then next_in (slice_get all (length all - 1)))
    else None

-- how many inputs the first row has
abbrev pub state_width : List VStateRow → ℕ
state_width [] = 0
state_width (row ∷ rows) = length row.inputs

-- the row behind these is as long as the first of them
abbrev pub is_as_long_as_state_rows : List VStateRow → VStateRow → Bool
is_as_long_as_state_rows = is_as_long (λ (row : VStateRow). length row.inputs)

-- "(" SYMBOL { "," SYMBOL } ")", a row of a state's table, behind these rows
unfoldable pub state_row : List VStateRow → Grammar (List VStateRow)
state_row rows = row_by symbols state_row_of (is_as_long_as_state_rows rows) rows

-- the table of a state
unfoldable pub state_table : Grammar VStateTable
state_table = table_of state_row (λ (rows : List VStateRow). record { rows = rows })

-- a level of a row of a truth table, behind these
unfoldable pub next_level : List Trits → Grammar (List Trits)
next_level levels = do
  level ← valued level_of
  r.Gives (levels ++ level ∷ [])

-- LEVEL { "," LEVEL }
unfoldable pub levels : Grammar (List Trits)
levels = entries next_level

-- what a row of a truth table gives
abbrev pub value_of : Trits → Option Trit
value_of trits.Zero = Some trit.Zero
value_of trits.One = Some trit.One
value_of trits.Unknown = Some trit.Unknown
value_of _ = None

abbrev pub truth_row_with : List Trits → Option Trit → Option TruthRow
truth_row_with inputs None = None
truth_row_with inputs (Some result) = Some (record { inputs = inputs; result = result })

-- The row of these levels: the last is what it gives. The others are its inputs, of which there is at least one.
abbrev pub truth_row_of : List Trits → Option TruthRow
truth_row_of all =
    if nat_lt 1 (length all) then truth_row_with (take (length all - 1) all)
    (option_and_then value_of (slice_get all (length all - 1)))
    else None

abbrev pub truth_width : List TruthRow → ℕ
truth_width [] = 0
truth_width (row ∷ rows) = length row.inputs

abbrev pub is_as_long_as_truth_rows : List TruthRow → TruthRow → Bool
is_as_long_as_truth_rows = is_as_long (λ (row : TruthRow). length row.inputs)

-- "(" LEVEL { "," LEVEL } ")", a row of a truth table, behind these rows
unfoldable pub truth_row : List TruthRow → Grammar (List TruthRow)
truth_row rows = row_by levels truth_row_of (is_as_long_as_truth_rows rows) rows

-- a truth table
unfoldable pub truth_table : Grammar TruthTable
truth_table = table_of truth_row (λ (rows : List TruthRow). record { rows = rows })

-- no table yet
abbrev pub no_tables : Tables
no_tables = record { states = []; conditions = []; outputs = [] }

abbrev pub with_state_table : Tables → VStateTable → Tables
with_state_table tables table = record {
  states = tables.states ++ table ∷ [];
  conditions = tables.conditions;
  outputs =
      tables.outputs;
}

abbrev pub with_condition_table : Tables → TruthTable → Tables
with_condition_table tables table =
    record { states = tables.states; conditions = tables.conditions ++ table ∷ []; outputs = tables.outputs }

abbrev pub with_output_table : Tables → TruthTable → Tables
with_output_table tables table = record {
  states = tables.states;
  conditions = tables.conditions;
  outputs =
      tables.outputs ++ table ∷ [];
}

-- the name of the constant with this number, from 1, among the tables of states and of outputs
abbrev pub table_name : ℕ → List ℕ
table_name j = numbered (codes "k_") j

-- the name of the constant of the condition with this number, from 1
abbrev pub condition_name : ℕ → List ℕ
condition_name i = numbered (codes "c_") i

-- what the next constant is a table of
pub data ConstantOf : Type 0 where
  -- a state or an output
  StateOrOutput : ConstantOf
  -- a condition
  Condition : ConstantOf

-- no table of an output stands yet
abbrev pub is_before_outputs : Tables → Bool
is_before_outputs tables = nat_eq (length tables.outputs) 0

-- The constant that a name declares behind these: the next table, or, where no table of an output stands yet, that of the next
-- condition.
abbrev pub constant_of : Tables → List ℕ → Option ConstantOf
constant_of tables x =
    if is_same x (table_name (length tables.states + length tables.outputs + 1)) then Some StateOrOutput
    else (if is_before_outputs tables && is_same x (condition_name (length tables.conditions + 1)) then Some Condition
    else None)

-- ":=" and a truth table behind the type of its constant, and ";"
unfoldable pub assigned_truth_table : Grammar TruthTable
assigned_truth_table = do
  _ ← expect (codes ":=")
  table ← truth_table
  _ ← expect (codes ";")
  r.Gives table

-- "VitalTruthTableType" ":=" and a truth table, of a condition
unfoldable pub condition_constant : Tables → Grammar Tables
condition_constant tables = do
  _ ← expect (codes "VitalTruthTableType")
  table ← assigned_truth_table
  r.Gives (with_condition_table tables table)

-- the same, of an output
unfoldable pub output_constant : Tables → Grammar Tables
output_constant tables = do
  _ ← expect (codes "VitalTruthTableType")
  table ← assigned_truth_table
  r.Gives (with_output_table tables table)

-- ":=" and the table of a state behind the type of its constant, and ";"
unfoldable pub state_constant : Tables → Grammar Tables
state_constant tables = do
  _ ← expect (codes ":=")
  table ← state_table
  _ ← expect (codes ";")
  r.Gives (with_state_table tables table)

-- The table of a state stands before those of conditions and outputs.
abbrev pub begins_state_table : Tables → List ℕ → Option (Verdict (Unit {0}) Refusal)
begins_state_table tables x =
    if is_before_outputs tables && nat_eq (length tables.conditions) 0 then begins (codes "VitalStateTableType") x else None

abbrev pub constant_by : Tables → ConstantOf → Grammar Tables
constant_by tables StateOrOutput = r.Choice (begins_state_table tables) (λ _. state_constant tables) (output_constant tables)
constant_by tables Condition = condition_constant tables

-- NAME ":" TYPE ":=" TABLE ";" behind "constant"
unfoldable pub constant : Tables → Grammar Tables
constant tables = do
  of ← known (constant_of tables)
  _ ← expect (codes ":")
  constant_by tables of

-- { constant }
unfoldable pub constants : Grammar Tables
constants = r.Many (λ _. begins (codes "constant")) (λ tables _. constant tables) no_tables
