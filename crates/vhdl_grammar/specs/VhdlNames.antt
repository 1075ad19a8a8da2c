-- The names that statements of VHDL text speak of, the lists of them in calls, and the calls that look up conditions. (IEEE
-- 1076.4-2000, VitalTruthTable; which name stands at which place is this project's subset.)
use Rattle.std.specs.Prelude.{ℕ, ◌+◌, Bool, true, false, ◌&&◌, nat_eq, nat_lt, min, if◌then◌else◌, List, [], ◌∷◌, ◌++◌, length}
use Rattle.std.specs.Prelude.{slice_get, Option, Some, None, codes}
use Rattle.std.specs.List.{list_any, position}
use Rattle.std.specs.Option.{option_map, option_map_or}
use Rattle.grammar_rules.specs.Rule.{Verdict, Fits, Foul, Misfit}
use Rattle.grammar_rules.specs.Rule as r
use Rattle.cell_machine.specs.declared.outputs.Source.{Source}
use Rattle.cell_machine.specs.declared.outputs.Source.TheVariants as source
use Rattle.udp_tables.specs.declared.models.VPort.{VPort}
use Rattle.vital_tables.specs.declared.table.TruthTable.{TruthTable}
use Rattle.udp_tables.specs.Ports.{is_input_port}
use Rattle.grammar_reader.specs.declared.refusal.Refusal.{Refusal}
use Rattle.grammar_reader.specs.declared.refusal.Refusal.TheVariants.{Syntax, Width, Undefined, Twice}
use Rattle.grammar_reader.specs.Words.{Grammar, ◌>>=◌, go_on_where, name_by}
use Rattle.vhdl_tokens.specs.Tokens.{is_name}
use Rattle.vhdl_tokens.specs.Spelling.{is_same}
use Rattle.vhdl_grammar.specs.declared.scope.Columns.{Columns}
use Rattle.vhdl_grammar.specs.declared.scope.Scope.{Scope}
use Rattle.vhdl_grammar.specs.VhdlRules.{expect, expect_all, expect_where, named, known, place_among, elements}
use Rattle.vhdl_grammar.specs.VhdlTables.{truth_width}
use Rattle.vhdl_grammar.specs.VhdlDeclarations.{width_at}

-- keeps what the test allows
abbrev pub kept : (ℕ → Bool) → Option ℕ → Option ℕ
kept test None = None
kept test (Some n) = if test n then Some n else None

-- the number of the port of a name
abbrev pub port_of : List VPort → List ℕ → Option ℕ
port_of ports x = position (λ (port : VPort). is_same x port.name) ports

-- the number of the input of a name
abbrev pub input_of : List VPort → List ℕ → Option ℕ
input_of ports x = kept (is_input_port ports) (port_of ports x)

-- the name of an input
unfoldable pub an_input : List VPort → Grammar ℕ
an_input ports = known (input_of ports)

-- what a list says of a thing that its place allows, and that it may have already
abbrev pub listed_by : {A : Type 0} → (A → Bool) → Option A → Verdict A Refusal
listed_by is_listed None = Misfit Undefined
listed_by is_listed (Some a) = if is_listed a then Foul Twice a else Fits a

-- the name of an input behind these in a list
abbrev pub input_by : List VPort → List ℕ → List ℕ → Verdict ℕ Refusal
input_by ports inputs x = listed_by (λ p. list_any (nat_eq p) inputs) (input_of ports x)

unfoldable pub listed_input : List VPort → List ℕ → Grammar (List ℕ)
listed_input ports inputs = do
  p ← named (input_by ports inputs)
  r.Gives (inputs ++ p ∷ [])

-- ")" behind a list of names, which has to have so many
abbrev pub list_end : ℕ → ℕ → Grammar (Unit {0})
list_end width n = expect_where (nat_eq n width) Width (codes ")")

-- The lists of the inputs of the conditions that were looked up so far, in the order of the conditions' numbers.
abbrev pub Uses : Type 0
Uses = List (List ℕ)

-- The condition of a name, from 0: one that was looked up before, or the next one, where there is one.
abbrev pub condition_of : Scope → Uses → List ℕ → Option ℕ
condition_of scope uses x = place_among (codes "c_") (min (length uses + 1) (length scope.tables.conditions)) x

-- how many inputs the table of a condition has
abbrev pub condition_width : Scope → ℕ → ℕ
condition_width scope i = option_map_or (λ (table : TruthTable). truth_width table.rows) (slice_get scope.tables.conditions i) 0

-- the list of inputs of a condition that is looked up for the first time: as many as its table has
unfoldable pub first_list : Scope → ℕ → Grammar (List ℕ)
first_list scope i = do
  inputs ← elements (listed_input scope.ports) []
  _ ← list_end (condition_width scope i) (length inputs)
  r.Gives inputs

-- this thing stands at this place of a list
abbrev pub stands_at : List ℕ → ℕ → ℕ → Bool
stands_at inputs k p = option_map_or (nat_eq p) (slice_get inputs k) false

-- the name of the next input of a list, where so many of it stand before
unfoldable pub same_input : List VPort → List ℕ → ℕ → Grammar ℕ
same_input ports inputs k = do
  _ ← known (λ x. kept (stands_at inputs k) (input_of ports x))
  r.Gives (k + 1)

-- the list of inputs of a condition that was looked up before: the same
unfoldable pub same_list : Scope → List ℕ → Grammar (Unit {0})
same_list scope inputs = do
  n ← elements (same_input scope.ports inputs) 0
  _ ← go_on_where (nat_eq n (length inputs))
  expect (codes ")")

-- the lists behind a look-up of a condition: where it is the first one, there is one more
unfoldable pub list_by : Scope → Uses → ℕ → Option (List ℕ) → Grammar Uses
list_by scope uses i (Some inputs) = do
  _ ← same_list scope inputs
  r.Gives uses
list_by scope uses i None = do
  inputs ← first_list scope i
  r.Gives (uses ++ inputs ∷ [])

-- "(" "TruthTable" "=>" NAME "," "DataIn" "=>" "(" .. ")" ")" behind "VitalTruthTable": the number of a condition, and the lists
unfoldable pub condition : Scope → Uses → Grammar (ℕ × Uses)
condition scope uses = do
  _ ← expect_all (codes "(" ∷ codes "TruthTable" ∷ codes "=>" ∷ [])
  i ← known (condition_of scope uses)
  _ ← expect_all (codes "," ∷ codes "DataIn" ∷ codes "=>" ∷ codes "(" ∷ [])
  more ← list_by scope uses i (slice_get uses i)
  _ ← expect (codes ")")
  r.Gives (i, more)

-- the columns with the violation first
abbrev pub violated_columns : Columns
violated_columns = record { violation = true; inputs = [] }

abbrev pub no_columns : Columns
no_columns = record { violation = false; inputs = [] }

abbrev pub with_input : Columns → ℕ → Columns
with_input columns p = record { violation = columns.violation; inputs = columns.inputs ++ p ∷ [] }

-- how many columns there are
abbrev pub column_count : Columns → ℕ
column_count columns = if columns.violation then length columns.inputs + 1 else length columns.inputs

-- the columns behind an input more
abbrev pub behind_input : Columns → Verdict ℕ Refusal → Verdict Columns Refusal
behind_input columns (Fits p) = Fits (with_input columns p)
behind_input columns (Foul k p) = Foul k (with_input columns p)
behind_input columns (Misfit k) = Misfit k

-- the violation may stand here: first, and where there are checks
abbrev pub takes_violation : Scope → Columns → Bool
takes_violation scope columns = nat_lt 0 (length scope.variables.periods) && nat_eq (column_count columns) 0

-- a column of a state's table behind these: the violation, which is no name, or an input
abbrev pub column_by : Scope → Columns → List ℕ → Verdict Columns Refusal
column_by scope columns x =
    if takes_violation scope columns && is_same x (codes "viol") then Fits violated_columns
    else name_by is_name (λ x. behind_input columns (input_by scope.ports columns.inputs x)) x

unfoldable pub next_column : Scope → Columns → Grammar Columns
next_column scope columns = r.Token (column_by scope columns) Syntax

-- the columns of the state with this number, from 0, and the end of their list: as many as its table has
unfoldable pub columns_of : Scope → ℕ → Grammar Columns
columns_of scope g = do
  columns ← elements (next_column scope) no_columns
  _ ← list_end (width_at scope.tables g) (column_count columns)
  r.Gives columns

-- the same source
abbrev pub same_source : Source → Source → Bool
same_source (source.Pin p) (source.Pin q) = nat_eq p q
same_source (source.Pin p) (source.State g) = false
same_source (source.State g) (source.Pin p) = false
same_source (source.State g) (source.State h) = nat_eq g h

abbrev pub source_or_state : Scope → List ℕ → Option ℕ → Option Source
source_or_state scope x (Some p) = Some (source.Pin p)
source_or_state scope x None = option_map source.State (place_among (codes "s_") (length scope.tables.states) x)

-- the source of a name: an input, or a state
abbrev pub source_of : Scope → List ℕ → Option Source
source_of scope x = source_or_state scope x (input_of scope.ports x)

unfoldable pub listed_source : Scope → List Source → Grammar (List Source)
listed_source scope sources = do
  s ← named (λ x. listed_by (λ s. list_any (same_source s) sources) (source_of scope x))
  r.Gives (sources ++ s ∷ [])

-- a list of inputs and states and its end: so many
unfoldable pub sources_of : Scope → ℕ → Grammar (List Source)
sources_of scope width = do
  sources ← elements (listed_source scope) []
  _ ← list_end width (length sources)
  r.Gives sources
