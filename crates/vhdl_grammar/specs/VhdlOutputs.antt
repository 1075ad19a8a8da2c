-- The grammar of the statements that assign outputs in VHDL text. (IEEE 1076.4-2000, VitalTruthTable and VitalPathDelay01; IEEE
-- 1076-1993, 8.4, signal assignments, and 8.5, assignments of variables.)
use Rattle.std.specs.Prelude.{ℕ, ◌+◌, Bool, true, false, not, ◌&&◌, nat_eq, nat_lt, if◌then◌else◌, List, [], ◌∷◌, ◌++◌, length}
use Rattle.std.specs.Prelude.{count_by, slice_get, Option, Some, None, codes}
use Rattle.std.specs.Option.{option_map, option_map_or, option_and_then}
use Rattle.grammar_rules.specs.Rule.{Verdict, Fits, Misfit}
use Rattle.grammar_rules.specs.Rule as r
use Rattle.vital_tables.specs.declared.table.TruthTable.{TruthTable}
use Rattle.vital_tables.specs.declared.model.HGate.{HGate}
use Rattle.vital_tables.specs.declared.model.HGate.TheVariants as gate
use Rattle.vital_tables.specs.declared.model.HPath.{HPath}
use Rattle.vital_tables.specs.Sound.{output_ports_from}
use Rattle.grammar_reader.specs.declared.refusal.Refusal.{Refusal}
use Rattle.grammar_reader.specs.declared.refusal.Refusal.TheVariants.{Syntax, Undefined}
use Rattle.grammar_reader.specs.Words.{Grammar, ◌>>=◌, go_on_where, begins_by, valued}
use Rattle.vhdl_tokens.specs.Tokens.{is_name}
use Rattle.vhdl_tokens.specs.Spelling.{is_same, is_string, is_quoted}
use Rattle.vhdl_grammar.specs.declared.scope.Assigned.{Assigned}
use Rattle.vhdl_grammar.specs.declared.scope.Assigned.TheVariants as assigned
use Rattle.vhdl_grammar.specs.declared.scope.Scope.{Scope}
use Rattle.vhdl_grammar.specs.VhdlRules.{expect, expect_all, begins, this_name, go_on_unnamed, numbered, numbered_where}
use Rattle.vhdl_grammar.specs.VhdlRules.{this_number, a_time}
use Rattle.vhdl_grammar.specs.VhdlTables.{truth_width}
use Rattle.vhdl_grammar.specs.VhdlDeclarations.{name_of_port, output_count}
use Rattle.vhdl_grammar.specs.VhdlNames.{Uses, an_input, condition, sources_of}

-- whether an assignment looks up a table
abbrev pub is_lookup : Assigned → Bool
is_lookup (assigned.Constant one) = false
is_lookup (assigned.Lookup sources) = true

-- how many tables of outputs these look up
abbrev pub lookups : List Assigned → ℕ
lookups values = count_by is_lookup values

-- how many inputs the table of an output with this number, from 0, has
abbrev pub output_width : Scope → ℕ → ℕ
output_width scope t = option_map_or (λ (table : TruthTable). truth_width table.rows) (slice_get scope.tables.outputs t) 0

-- the name of the table of an output with this number, from 0, where there is one: they stand behind those of the states
abbrev pub output_table_name : Scope → ℕ → Option (List ℕ)
output_table_name scope t = numbered_where (nat_lt t (length scope.tables.outputs)) (codes "k_")
    (length scope.tables.states + t + 1)

-- "(" "TruthTable" "=>" NAME "," "DataIn" "=>" "(" .. ")" ")" behind "VitalTruthTable": the next table, behind so many
unfoldable pub lookup : Scope → ℕ → Grammar Assigned
lookup scope t = do
  _ ← expect_all (codes "(" ∷ codes "TruthTable" ∷ codes "=>" ∷ [])
  _ ← this_name (output_table_name scope t)
  _ ← expect_all (codes "," ∷ codes "DataIn" ∷ codes "=>" ∷ codes "(" ∷ [])
  sources ← sources_of scope (output_width scope t)
  _ ← expect (codes ")")
  r.Gives (assigned.Lookup sources)

-- a literal: whether it is 1
abbrev pub bit : List ℕ → Option Bool
bit x = if is_same x (codes "'0'") then Some false else (if is_same x (codes "'1'") then Some true else None)

unfoldable pub a_constant : Grammar Assigned
a_constant = do
  one ← valued bit
  r.Gives (assigned.Constant one)

-- ":=" ( literal | look-up ) ";" behind the name of the variable of an output, and behind others
unfoldable pub next_value : Scope → List Assigned → Grammar (List Assigned)
next_value scope values = do
  _ ← expect (codes ":=")
  value ← r.Choice (begins (codes "VitalTruthTable")) (λ _. lookup scope (lookups values)) a_constant
  _ ← expect (codes ";")
  r.Gives (values ++ value ∷ [])

abbrev pub is_this_value : List Assigned → List ℕ → Verdict (Unit {0}) Refusal
is_this_value values x = if is_same x (numbered (codes "z_") (length values + 1)) then Fits tt else Misfit Undefined

-- A name begins the assignment of the next output's variable, as long as there is one.
abbrev pub begins_value : Scope → List Assigned → List ℕ → Option (Verdict (Unit {0}) Refusal)
begins_value scope values x =
    if nat_lt (length values) (output_count scope.ports) && is_name x then Some (is_this_value values x) else None

-- { z line }, one for each output. They have to look up all tables of outputs.
unfoldable pub values_of : Scope → Grammar (List Assigned)
values_of scope = do
  values ← r.Many (begins_value scope) (λ found _. next_value scope found) []
  _ ← go_on_where (nat_eq (length values) (output_count scope.ports))
  _ ← go_on_unnamed (nat_eq (lookups values) (length scope.tables.outputs))
  r.Gives values

-- T "=" "'0'", behind "VitalTruthTable" and behind conditions that have to be 0 too
unfoldable pub next_zero : Scope → List ℕ × Uses → Grammar (List ℕ × Uses)
next_zero scope before = do
  _ ← expect (codes "VitalTruthTable")
  found ← condition scope before.1
  _ ← expect_all (codes "=" ∷ codes "'0'" ∷ [])
  r.Gives (before.0 ++ found.0 ∷ [], found.1)

-- "'0'" { "and" T "=" "'0'" } behind "=" of the first condition
unfoldable pub all_zero : Scope → ℕ × Uses → Grammar (HGate × Uses)
all_zero scope first = do
  _ ← expect (codes "'0'")
  all ← r.Many (λ _. begins (codes "and")) (λ found _. next_zero scope found) (first.0 ∷ [], first.1)
  r.Gives (gate.AllZero all.0, all.1)

-- "'0'" behind "/="
unfoldable pub not_zero : ℕ × Uses → Grammar (HGate × Uses)
not_zero found = do
  _ ← expect (codes "'0'")
  r.Gives (gate.NotZero found.0, found.1)

-- "=" "'0'" { "and" T "=" "'0'" }
unfoldable pub equals_zero : Scope → ℕ × Uses → Grammar (HGate × Uses)
equals_zero scope first = do
  _ ← expect (codes "=")
  all_zero scope first

-- a gate behind the first "VitalTruthTable"
unfoldable pub gate_of_conditions : Scope → Uses → Grammar (HGate × Uses)
gate_of_conditions scope uses = do
  found ← condition scope uses
  r.Choice (begins (codes "/=")) (λ _. not_zero found) (equals_zero scope found)

-- "true" where a path counts always
unfoldable pub always : Uses → Grammar (HGate × Uses)
always uses = do
  _ ← expect (codes "true")
  r.Gives (gate.Always, uses)

-- "true" | T "/=" "'0'" | T "=" "'0'" { "and" T "=" "'0'" }: when a path counts, and the lists
unfoldable pub gate_of : Scope → Uses → Grammar (HGate × Uses)
gate_of scope uses = r.Choice (begins (codes "VitalTruthTable")) (λ _. gate_of_conditions scope uses) (always uses)

-- "(" NUM "ps" "," NUM "ps" ")" ",": the delays of a rise and of a fall
unfoldable pub delays : Grammar (ℕ × ℕ)
delays = do
  _ ← expect (codes "(")
  rise ← a_time
  _ ← expect (codes ",")
  fall ← a_time
  _ ← expect_all (codes ")" ∷ codes "," ∷ [])
  r.Gives (rise, fall)

-- NUM "=>" "(" NAME "'" "last_event" "," delays GATE ")", behind other paths: the number is how many there are
unfoldable pub next_path : Scope → List HPath × Uses → Grammar (List HPath × Uses)
next_path scope before = do
  _ ← this_number (length before.0)
  _ ← expect_all (codes "=>" ∷ codes "(" ∷ [])
  from ← an_input scope.ports
  _ ← expect_all (codes "'" ∷ codes "last_event" ∷ codes "," ∷ [])
  times ← delays
  when ← gate_of scope before.1
  _ ← expect (codes ")")
  r.Gives (before.0 ++ record { from = from; rise = times.0; fall = times.1; gate = when.0 } ∷ [], when.1)

-- "(" path { "," path } ")"
unfoldable pub paths : Scope → Uses → Grammar (List HPath × Uses)
paths scope uses = do
  _ ← expect (codes "(")
  first ← next_path scope ([], uses)
  all ← r.Many (λ _. begins (codes ",")) (λ found _. next_path scope found) first
  _ ← expect (codes ")")
  r.Gives all

-- the name of the output with this number, from 0
abbrev pub output_name : Scope → ℕ → Option (List ℕ)
output_name scope o =
    option_and_then (λ p. option_map name_of_port (slice_get scope.ports p)) (slice_get (output_ports_from 0 scope.ports) o)

-- the output has data of its delays, so it has paths
abbrev pub has_glitch : Scope → ℕ → Bool
has_glitch scope o = option_map_or (λ (b : Bool). b) (slice_get scope.variables.glitches o) false

-- the paths of each output so far, and the lists of the conditions that were looked up
abbrev pub Lines : Type 0
Lines = List (List HPath) × Uses

abbrev pub is_text_of : Option (List ℕ) → List ℕ → Bool
is_text_of None x = false
is_text_of (Some name) x = is_quoted x name

-- the text of this name
abbrev pub text_by : Option (List ℕ) → List ℕ → Verdict (Unit {0}) Refusal
text_by name x = if is_string x then (if is_text_of name x then Fits tt else Misfit Undefined) else Misfit Syntax

-- "(" "OutSignal" "=>" NAME "," "GlitchData" "=>" NAME "," "OutSignalName" "=>" TEXT "," "OutTemp" "=>" NAME ",": of the output
-- with this number, from 0, which has to have data of its delays
unfoldable pub path_call_start : Scope → ℕ → Grammar (Unit {0})
path_call_start scope o = do
  _ ← expect_all (codes "(" ∷ codes "OutSignal" ∷ codes "=>" ∷ [])
  _ ← this_name (output_name scope o)
  _ ← expect_all (codes "," ∷ codes "GlitchData" ∷ codes "=>" ∷ [])
  _ ← this_name (numbered_where (has_glitch scope o) (codes "g_") (o + 1))
  _ ← expect_all (codes "," ∷ codes "OutSignalName" ∷ codes "=>" ∷ [])
  _ ← r.Token (text_by (output_name scope o)) Syntax
  _ ← expect_all (codes "," ∷ codes "OutTemp" ∷ codes "=>" ∷ [])
  _ ← this_name (Some (numbered (codes "z_") (o + 1)))
  expect (codes ",")

-- a call of VitalPathDelay01 behind its word, and behind the lines of other outputs
unfoldable pub path_call : Scope → Lines → Grammar Lines
path_call scope lines = do
  _ ← path_call_start scope (length lines.0)
  _ ← expect_all (codes "Paths" ∷ codes "=>" ∷ [])
  found ← paths scope lines.1
  _ ← expect_all (codes "," ∷ codes "Mode" ∷ codes "=>" ∷ codes "VitalTransport" ∷ codes ")" ∷ codes ";" ∷ [])
  r.Gives (lines.0 ++ found.0 ∷ [], found.1)

-- NAME ";" behind "<=": the variable of an output without paths
unfoldable pub assigned_value : Lines → Grammar Lines
assigned_value lines = do
  _ ← this_name (Some (numbered (codes "z_") (length lines.0 + 1)))
  _ ← expect (codes ";")
  r.Gives (lines.0 ++ [] ∷ [], lines.1)

-- "<=" NAME ";" behind the name of an output without paths
unfoldable pub assignment : Lines → Grammar Lines
assignment lines = do
  _ ← expect (codes "<=")
  assigned_value lines

-- the name is that of the next output, and this has no paths
abbrev pub is_unpathed : Scope → ℕ → List ℕ → Bool
is_unpathed scope o x = not (has_glitch scope o) && option_map_or (λ name. is_same x name) (output_name scope o) false

-- The token behind "VitalPathDelay01" assigns the output with this number, from 0, which has the same name and no paths.
abbrev pub assigns_so_named : Scope → ℕ → List ℕ → Bool
assigns_so_named scope o x = is_same x (codes "<=") && is_unpathed scope o (codes "VitalPathDelay01")

-- What stands behind "VitalPathDelay01" and behind the lines of other outputs: the assignment of an output of this name, or a
-- call.
unfoldable pub call_or_assignment : Scope → Lines → Grammar Lines
call_or_assignment scope lines =
    r.Choice (begins_by (assigns_so_named scope (length lines.0))) (λ _. assigned_value lines) (path_call scope lines)

-- What a token begins among the lines of outputs: "VitalPathDelay01" a call or an assignment, which is said by true, and another
-- name an assignment. That is the name of the next output, which has to have no paths.
abbrev pub begins_line : Scope → Lines → List ℕ → Option (Verdict Bool Refusal)
begins_line scope lines x =
    if is_same x (codes "VitalPathDelay01") then Some (Fits true)
    else (if is_name x then Some (if is_unpathed scope (length lines.0) x then Fits false else Misfit Undefined) else None)

abbrev pub line_by : Scope → Lines → Bool → Grammar Lines
line_by scope lines true = call_or_assignment scope lines
line_by scope lines false = assignment lines

-- the lines of the outputs, one for each
unfoldable pub output_lines : Scope → Uses → Grammar Lines
output_lines scope uses = do
  lines ← r.Many (begins_line scope) (line_by scope) ([], uses)
  _ ← go_on_where (nat_eq (length lines.0) (output_count scope.ports))
  r.Gives lines
