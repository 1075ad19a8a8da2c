-- The grammar of declarations in VHDL text: an entity with its ports, its architecture up to the statements of its process. (IEEE
-- 1076-1993, 1.1, entities, 1.2, architectures, 4.3.1.3, variables, 9.2, processes.)
use Rattle.std.specs.Prelude.{ℕ, ◌+◌, Bool, true, false, not, ◌&&◌, nat_eq, nat_lt, if◌then◌else◌, List, [], ◌∷◌, ◌++◌, length}
use Rattle.std.specs.Prelude.{map, filter, slice_get, Option, Some, None, codes}
use Rattle.std.specs.List.{list_any}
use Rattle.std.specs.Option.{option_map_or}
use Rattle.grammar_rules.specs.Rule.{Verdict, Fits, Foul, Misfit}
use Rattle.grammar_rules.specs.Rule as r
use Rattle.udp_tables.specs.declared.models.VPort.{VPort}
use Rattle.vital_tables.specs.declared.table.VStateTable.{VStateTable}
use Rattle.vital_tables.specs.Sound.{output_ports_from}
use Rattle.grammar_reader.specs.declared.refusal.Refusal.{Refusal}
use Rattle.grammar_reader.specs.declared.refusal.Refusal.TheVariants.{Syntax, Undefined, Twice}
use Rattle.grammar_reader.specs.Words.{Grammar, ◌>>=◌, go_on_where, valued, allowed_by, name_by}
use Rattle.vhdl_tokens.specs.Tokens.{is_name}
use Rattle.vhdl_tokens.specs.Spelling.{is_same}
use Rattle.vhdl_grammar.specs.declared.scope.Tables.{Tables}
use Rattle.vhdl_grammar.specs.declared.scope.Variables.{Variables}
use Rattle.vhdl_grammar.specs.declared.scope.Scope.{Scope}
use Rattle.vhdl_grammar.specs.VhdlRules.{expect, expect_all, begins, named, is_among, this_name, numbered, this_number}
use Rattle.vhdl_grammar.specs.VhdlTables.{constants, state_width}

-- "library" "IEEE" ";" and the three packages, behind "library" (IEEE 1076.4-2000 names the packages)
unfoldable pub packages : Grammar (Unit {0})
packages = do
  _ ← expect_all (codes "IEEE" ∷ codes ";" ∷ [])
  _ ← expect_all (codes "use" ∷ codes "IEEE" ∷ codes "." ∷ codes "std_logic_1164" ∷ codes "." ∷ codes "all" ∷ codes ";" ∷ [])
  _ ← expect_all (codes "use" ∷ codes "IEEE" ∷ codes "." ∷ codes "VITAL_Timing" ∷ codes "." ∷ codes "all" ∷ codes ";" ∷ [])
  expect_all (codes "use" ∷ codes "IEEE" ∷ codes "." ∷ codes "VITAL_Primitives" ∷ codes "." ∷ codes "all" ∷ codes ";" ∷ [])

-- the port's name
abbrev pub name_of_port : VPort → List ℕ
name_of_port port = port.name

abbrev pub port_names : List VPort → List (List ℕ)
port_names ports = map name_of_port ports

-- a name has a `_`, which ports' names have not, so that they are none of the inner names
abbrev pub has_underscore : List ℕ → Bool
has_underscore x = list_any (nat_eq 95) x

-- The name of a port of this entity, behind these ports. It is not the entity's name, and none of theirs.
abbrev pub port_by : List ℕ → List VPort → List ℕ → Verdict (List ℕ) Refusal
port_by entity ports x =
    if has_underscore x then Misfit Undefined else (if is_among (entity ∷ port_names ports) x then Foul Twice x else Fits x)

-- the direction of a port: whether it is an input
abbrev pub is_input_word : List ℕ → Option Bool
is_input_word x = if is_same x (codes "in") then Some true else (if is_same x (codes "out") then Some false else None)

-- NAME ":" ( "in" | "out" ) "std_ulogic", behind these ports (1.1.1.2)
unfoldable pub next_port : List ℕ → List VPort → Grammar (List VPort)
next_port entity ports = do
  name ← named (port_by entity ports)
  _ ← expect (codes ":")
  input ← valued is_input_word
  _ ← expect (codes "std_ulogic")
  r.Gives (ports ++ record { name = name; input = input } ∷ [])

-- "(" port { ";" port } ")" ";" behind "port"
unfoldable pub port_list : List ℕ → Grammar (List VPort)
port_list entity = do
  _ ← expect (codes "(")
  first ← next_port entity []
  ports ← r.Many (λ _. begins (codes ";")) (λ found _. next_port entity found) first
  _ ← expect_all (codes ")" ∷ codes ";" ∷ [])
  r.Gives ports

-- [ "port" "(" port { ";" port } ")" ";" ]
unfoldable pub ports_of : List ℕ → Grammar (List VPort)
ports_of entity = r.Choice (begins (codes "port")) (λ _. port_list entity) (r.Gives [])

-- "is" [ ports ] "end" NAME ";" behind the entity's name
unfoldable pub entity_header : List ℕ → Grammar (List VPort)
entity_header entity = do
  _ ← expect (codes "is")
  ports ← ports_of entity
  _ ← expect (codes "end")
  _ ← this_name (Some entity)
  _ ← expect (codes ";")
  r.Gives ports

-- "architecture" "vital" "of" NAME "is" (1.2)
unfoldable pub architecture_header : List ℕ → Grammar (Unit {0})
architecture_header entity = do
  _ ← expect_all (codes "architecture" ∷ codes "vital" ∷ codes "of" ∷ [])
  _ ← this_name (Some entity)
  expect (codes "is")

-- the names of the inputs, in order
abbrev pub input_names : List VPort → List (List ℕ)
input_names ports = port_names (filter (λ (port : VPort). port.input) ports)

-- NAME, where so many of these names stand before it: the next one
unfoldable pub listed_name : List (List ℕ) → ℕ → Grammar ℕ
listed_name names n = do
  _ ← this_name (slice_get names n)
  r.Gives (n + 1)

-- "(" NAME { "," NAME } ")": all these names in order
unfoldable pub listed_names : List (List ℕ) → Grammar (Unit {0})
listed_names names = do
  _ ← expect (codes "(")
  one ← listed_name names 0
  n ← r.Many (λ _. begins (codes ",")) (λ n _. listed_name names n) one
  _ ← go_on_where (nat_eq n (length names))
  expect (codes ")")

-- the sensitivity list: the inputs, where there is one (9.2)
abbrev pub sensitivity : List (List ℕ) → Grammar (Unit {0})
sensitivity [] = r.Gives tt
sensitivity (name ∷ names) = listed_names (name ∷ names)

-- no variable yet
abbrev pub no_variables : Variables
no_variables = record { periods = []; violation = false; states = 0; glitches = [] }

abbrev pub with_check : Variables → Bool → Variables
with_check v is_period =
    record { periods = v.periods ++ is_period ∷ []; violation = v.violation; states = v.states; glitches = v.glitches }

abbrev pub with_violation : Variables → Variables
with_violation v = record { periods = v.periods; violation = true; states = v.states; glitches = v.glitches }

abbrev pub with_state : Variables → Variables
with_state v = record { periods = v.periods; violation = v.violation; states = v.states + 1; glitches = v.glitches }

abbrev pub with_output : Variables → Variables
with_output v = record { periods = v.periods; violation = v.violation; states = v.states; glitches = v.glitches ++ false ∷ [] }

-- the last of these becomes true
abbrev pub last_true : List Bool → List Bool
last_true [] = []
last_true (b ∷ []) = true ∷ []
last_true (b ∷ c ∷ bs) = b ∷ last_true (c ∷ bs)

abbrev pub with_glitch : Variables → Variables
with_glitch v = record { periods = v.periods; violation = v.violation; states = v.states; glitches = last_true v.glitches }

-- the last of these is false
abbrev pub is_last_false : List Bool → Bool
is_last_false [] = false
is_last_false (b ∷ []) = not b
is_last_false (b ∷ c ∷ bs) = is_last_false (c ∷ bs)

-- what a variable is of: of a check, of the violation, of a state, of an output, of the delays of an output
pub data VariableOf : Type 0 where
  Check : VariableOf
  Violation : VariableOf
  State : VariableOf
  Output : VariableOf
  Glitch : VariableOf

-- no variable of a state or of an output stands yet
abbrev pub is_before_states : Variables → Bool
is_before_states v = nat_eq v.states 0 && nat_eq (length v.glitches) 0

-- variables of checks stand, and the one of the violation is next
abbrev pub awaits_violation : Variables → Bool
awaits_violation v = nat_lt 0 (length v.periods) && not v.violation

-- how many outputs there are
abbrev pub output_count : List VPort → ℕ
output_count ports = length (output_ports_from 0 ports)

-- The variable that a name declares behind these: of the next check, of the next state, of the next output, or of the delays of
-- the last output. The violation stands behind the checks, where there are any.
abbrev pub state_or_output : List VPort → Tables → Variables → List ℕ → Option VariableOf
state_or_output ports tables v x =
    if nat_lt v.states (length tables.states) then (if is_same x (numbered (codes "s_") (v.states + 1)) then Some State else None)
    else (if nat_lt (length v.glitches) (output_count ports) && is_same x (numbered (codes "z_") (length v.glitches + 1))
    then Some Output
    else (if is_last_false v.glitches && is_same x (numbered (codes "g_") (length v.glitches)) then Some Glitch
    else None))

abbrev pub variable_of : List VPort → Tables → Variables → List ℕ → Option VariableOf
variable_of ports tables v x =
    if is_before_states v && (not v.violation && is_same x (numbered (codes "x_") (length v.periods + 1))) then Some Check
    else (if awaits_violation v then None else state_or_output ports tables v x)

-- what a token declares at the place of a variable's name: that of the violation is no name, and is taken where it is the next
-- one
abbrev pub variable_by : List VPort → Tables → Variables → List ℕ → Verdict VariableOf Refusal
variable_by ports tables v x =
    if awaits_violation v && is_same x (codes "viol") then Fits Violation
    else name_by is_name (λ x. allowed_by Undefined (variable_of ports tables v x)) x

-- the types of the data of a check: whether they are those of a pulse or of a period (IEEE 1076.4-2000, VitalTimingDataType and
-- VitalPeriodDataType)
abbrev pub is_period_type : List ℕ → Option Bool
is_period_type x =
    if is_same x (codes "VitalTimingDataType") then Some false
    else (if is_same x (codes "VitalPeriodDataType") then Some true else None)

-- the first data of a check of this type
abbrev pub first_data : Bool → List ℕ
first_data true = codes "VitalPeriodDataInit"
first_data false = codes "VitalTimingDataInit"

-- ":" "X01" ":=" "'0'" ";", and the variable of the data of this check, from 1
unfoldable pub check_variables : Variables → Grammar Variables
check_variables v = do
  _ ← expect_all (codes ":" ∷ codes "X01" ∷ codes ":=" ∷ codes "'0'" ∷ codes ";" ∷ codes "variable" ∷ [])
  _ ← this_name (Some (numbered (codes "d_") (length v.periods + 1)))
  _ ← expect (codes ":")
  is_period ← valued is_period_type
  _ ← expect_all (codes ":=" ∷ first_data is_period ∷ codes ";" ∷ [])
  r.Gives (with_check v is_period)

-- ":" "X01" ":=" "'0'" ";" behind the name of the violation
unfoldable pub violation_variable : Variables → Grammar Variables
violation_variable v = do
  _ ← expect_all (codes ":" ∷ codes "X01" ∷ codes ":=" ∷ codes "'0'" ∷ codes ";" ∷ [])
  r.Gives (with_violation v)

-- how many columns the table with this number, from 0, has
abbrev pub width_at : Tables → ℕ → ℕ
width_at tables g = option_map_or (λ (table : VStateTable). state_width table.rows) (slice_get tables.states g) 0

-- ":" "std_logic" ":=" "'X'" ";", and the variable of the columns that this state's table saw before: as many as it has
unfoldable pub state_variables : Tables → Variables → Grammar Variables
state_variables tables v = do
  _ ← expect_all (codes ":" ∷ codes "std_logic" ∷ codes ":=" ∷ codes "'X'" ∷ codes ";" ∷ codes "variable" ∷ [])
  _ ← this_name (Some (numbered (codes "p_") (v.states + 1)))
  _ ← expect_all (codes ":" ∷ codes "std_logic_vector" ∷ codes "(" ∷ [])
  _ ← this_number 1
  _ ← expect (codes "to")
  _ ← this_number (width_at tables v.states)
  _ ← expect_all (codes ")" ∷ codes ":=" ∷ codes "(" ∷ codes "others" ∷ codes "=>" ∷ codes "'X'" ∷ codes ")" ∷ codes ";" ∷ [])
  r.Gives (with_state v)

-- ":" "std_logic" ":=" "'X'" ";" behind the name of an output's variable
unfoldable pub output_variable : Variables → Grammar Variables
output_variable v = do
  _ ← expect_all (codes ":" ∷ codes "std_logic" ∷ codes ":=" ∷ codes "'X'" ∷ codes ";" ∷ [])
  r.Gives (with_output v)

-- ":" "VitalGlitchDataType" ";" behind the name of the data of an output's delays
unfoldable pub glitch_variable : Variables → Grammar Variables
glitch_variable v = do
  _ ← expect_all (codes ":" ∷ codes "VitalGlitchDataType" ∷ codes ";" ∷ [])
  r.Gives (with_glitch v)

abbrev pub variable_as : Tables → Variables → VariableOf → Grammar Variables
variable_as tables v Check = check_variables v
variable_as tables v Violation = violation_variable v
variable_as tables v State = state_variables tables v
variable_as tables v Output = output_variable v
variable_as tables v Glitch = glitch_variable v

-- a variable behind "variable"
unfoldable pub variable : List VPort → Tables → Variables → Grammar Variables
variable ports tables v = do
  of ← r.Token (variable_by ports tables v) Syntax
  variable_as tables v of

-- the variables of all checks, states and outputs stand
abbrev pub are_declared : List VPort → Tables → Variables → Bool
are_declared ports tables v =
    not (awaits_violation v) && (nat_eq v.states (length tables.states) && nat_eq (length v.glitches) (output_count ports))

-- { variable }
unfoldable pub variables : List VPort → Tables → Grammar Variables
variables ports tables = do
  v ← r.Many (λ _. begins (codes "variable")) (λ v _. variable ports tables v) no_variables
  _ ← go_on_where (are_declared ports tables v)
  r.Gives v

-- The declarations behind the name of an entity, up to "begin" before the statements.
unfoldable pub scope_of : List ℕ → Grammar Scope
scope_of entity = do
  ports ← entity_header entity
  _ ← architecture_header entity
  tables ← constants
  _ ← expect_all (codes "begin" ∷ codes "process" ∷ [])
  _ ← sensitivity (input_names ports)
  v ← variables ports tables
  _ ← expect (codes "begin")
  r.Gives (record { name = entity; ports = ports; tables = tables; variables = v })
