-- When a list of entities is one of a VHDL text of this project's subset. (IEEE 1076-1993, 13.3, identifiers, 10.3, declarations
-- that are apart; IEEE 1076.4-2000, tables; the limits are this project's.)
use Rattle.std.specs.Prelude.{ℕ, ◌+◌, ◌<◌, ◌≤◌, ◌^◌, Bool, true, false, not, ◌&&◌, nat_eq, nat_lt, if◌then◌else◌, IsTrue, All, ⊤}
use Rattle.std.specs.Prelude.{List, [], ◌∷◌, ◌++◌, length, count_by, Option, Some, None}
use Rattle.std.specs.List.{IsDistinct, list_all, flat_map}
use Rattle.std.specs.Char.{is_ascii_alphabetic}
use Rattle.std.specs.Str.{str_eq_ignore_ascii_case}
use Rattle.cell_machine.specs.declared.outputs.Source.{Source}
use Rattle.vhdl_tokens.specs.Kept.{is_plain}
use Rattle.vhdl_tokens.specs.Words.{is_vhdl_word}
use Rattle.vhdl_tokens.specs.Tokens.{is_name_byte}
use Rattle.vital_tables.specs.declared.table.TruthTable.{TruthTable}
use Rattle.vital_tables.specs.declared.table.VStateRow.{VStateRow}
use Rattle.vital_tables.specs.declared.model.VState.{VState}
use Rattle.vital_tables.specs.declared.model.VTruth.{VTruth}
use Rattle.vital_tables.specs.declared.model.OutValue.{OutValue}
use Rattle.vital_tables.specs.declared.model.OutValue.TheVariants as value
use Rattle.vital_tables.specs.declared.model.VOutput.{VOutput}
use Rattle.vital_tables.specs.declared.model.HGate.{HGate}
use Rattle.vital_tables.specs.declared.model.HGate.TheVariants as gate
use Rattle.vital_tables.specs.declared.model.HPath.{HPath}
use Rattle.udp_tables.specs.declared.timing_checks.TimingCheck.{TimingCheck}
use Rattle.vital_tables.specs.declared.model.VEntity.{VEntity}
use Rattle.vital_tables.specs.Sound.{columns_of, IsSound}
use Rattle.vhdl_grammar.specs.VhdlTables.{is_edge}
use Rattle.vhdl_grammar.specs.VhdlDeclarations.{port_names}
use Rattle.vhdl_grammar.specs.VhdlNames.{same_source}
use Rattle.vhdl_grammar.specs.VhdlText.{entity_names}

-- a letter followed by letters, digits and `_`
abbrev pub is_spelled_as_name : List ℕ → Bool
is_spelled_as_name [] = false
is_spelled_as_name (first ∷ others) = is_ascii_alphabetic first && list_all is_name_byte others

-- the name of an entity: an identifier that is no word of VHDL, and none that the text of an entity uses
pub record IsEntityName (name : List ℕ) : Type 0 where
  pub identifier : IsTrue (is_spelled_as_name name)
  pub no_word : IsTrue (not (is_vhdl_word name))

-- the name of a port has no `_` either
pub record IsPortName (name : List ℕ) : Type 0 where
  pub plain : IsTrue (is_plain name)
  pub no_word : IsTrue (not (is_vhdl_word name))

-- no name stands twice, whatever the case of its letters
abbrev pub AreApart : List (List ℕ) → Type 0
AreApart names = IsDistinct str_eq_ignore_ascii_case names

-- a row of a state's table has at most one edge
abbrev pub HasOneEdge : VStateRow → Type 0
HasOneEdge row = count_by is_edge row.inputs ≤ 1

-- a number of at most 15 digits
abbrev pub IsNumber : ℕ → Type 0
IsNumber n = n < 10 ^ 15

-- how many things memory can hold: a number of at most 64 bits
abbrev pub IsCount : ℕ → Type 0
IsCount n = n < 2 ^ 64

-- A state that a text can tell: its table has a row and a column, and no input stands twice among its columns. How many columns
-- there are is a number of the text, the bound of the variable of the columns before.
pub record IsWrittenState (state : VState) : Type 0 where
  pub rows : 1 ≤ length state.table.rows
  pub columns : 1 ≤ columns_of state
  pub width : IsNumber (columns_of state)
  pub edges : All HasOneEdge state.table.rows
  pub apart : IsDistinct nat_eq state.inputs

-- a condition that a text can tell
pub record IsWrittenTruth (truth : VTruth) : Type 0 where
  pub rows : 1 ≤ length truth.table.rows
  pub columns : 1 ≤ length truth.inputs
  pub apart : IsDistinct nat_eq truth.inputs

-- a table of an output that a text can tell
pub record IsWrittenLookup (table : TruthTable) (sources : List Source) : Type 0 where
  pub rows : 1 ≤ length table.rows
  pub columns : 1 ≤ length sources
  pub apart : IsDistinct same_source sources

-- the value of an output that a text can tell: any constant, or what such a table gives
abbrev pub IsWrittenValue : OutValue → Type 0
IsWrittenValue (value.Constant one) = ⊤
IsWrittenValue (value.Table table sources) = IsWrittenLookup table sources

-- a path that counts where conditions are 0 names one
abbrev pub names_condition : HGate → Bool
names_condition gate.Always = true
names_condition (gate.NotZero i) = true
names_condition (gate.AllZero is) = nat_lt 0 (length is)

-- a path that a text can tell
pub record IsWrittenPath (path : HPath) : Type 0 where
  pub rise : IsNumber path.rise
  pub fall : IsNumber path.fall
  pub gated : IsTrue (names_condition path.gate)

-- An output that a text can tell. The place of each path, from 0, is a number of the text.
pub record IsWrittenOutput (output : VOutput) : Type 0 where
  pub valued : IsWrittenValue output.value
  pub paths : All IsWrittenPath output.paths
  pub few : length output.paths ≤ 10 ^ 15

-- the conditions of a check, of a path, and of an entity in the order of its text
abbrev pub conditions_of_check : TimingCheck → List ℕ
conditions_of_check k = numbers_of k.condition where
  numbers_of : Option ℕ → List ℕ
  numbers_of None = []
  numbers_of (Some i) = i ∷ []

abbrev pub conditions_of_gate : HGate → List ℕ
conditions_of_gate gate.Always = []
conditions_of_gate (gate.NotZero i) = i ∷ []
conditions_of_gate (gate.AllZero is) = is

abbrev pub conditions_of_path : HPath → List ℕ
conditions_of_path path = conditions_of_gate path.gate

abbrev pub conditions_of_output : VOutput → List ℕ
conditions_of_output output = flat_map conditions_of_path output.paths

abbrev pub looked_up : VEntity → List ℕ
looked_up e = flat_map conditions_of_check e.checks ++ flat_map conditions_of_output e.outputs

-- Behind look-ups of the conditions below this number these go on: each is of one of these conditions, or of the next one, and at
-- the end each of so many has been looked up.
abbrev pub looks_up_in_order : ℕ → ℕ → List ℕ → Bool
looks_up_in_order all seen [] = nat_eq seen all
looks_up_in_order all seen (i ∷ is) =
    if nat_lt i seen then looks_up_in_order all seen is
    else (if nat_eq i seen then looks_up_in_order all (seen + 1) is else false)

-- how many ports, states, conditions and checks there are
abbrev pub part_count : VEntity → ℕ
part_count e = length e.ports + length e.states + (length e.conditions + length e.checks)

-- An entity that a text in memory can tell. The names of its parts end in their numbers, so how many parts there are is a count
-- as well (IEEE 1076-1993, 13.3, bounds no name).
pub record IsWellFormedEntity (e : VEntity) : Type 0 where
  pub name : IsEntityName e.name
  pub ports : All IsPortName (port_names e.ports)
  pub apart : AreApart (e.name ∷ port_names e.ports)
  pub sound : IsSound e
  pub states : All IsWrittenState e.states
  pub conditions : All IsWrittenTruth e.conditions
  pub in_order : IsTrue (looks_up_in_order (length e.conditions) 0 (looked_up e))
  pub outputs : All IsWrittenOutput e.outputs
  pub limits : All (λ (k : TimingCheck). IsNumber k.limit) e.checks
  pub few : IsCount (part_count e)

-- A list of entities that a text can have: each is well formed, and no two share a name.
pub record AreWellFormed (es : List VEntity) : Type 0 where
  pub entities : All IsWellFormedEntity es
  pub apart : AreApart (entity_names es)
