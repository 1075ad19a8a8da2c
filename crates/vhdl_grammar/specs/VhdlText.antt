-- VHDL text: the entities that its bytes are, or its fault. (IEEE 1076-1993, 1.1 and 1.2; IEEE 1076.4-2000; the subset is this
-- project's.)
use Rattle.std.specs.Prelude.{ℕ, nat_eq, Bool, List, [], ◌∷◌, ◌++◌, length, map, Result, codes}
use Rattle.grammar_rules.specs.Rule as r
use Rattle.udp_tables.specs.declared.models.ModelFault.{ModelFault}
use Rattle.udp_tables.specs.ModelFaults.{model_faults}
use Rattle.vital_tables.specs.declared.table.TruthTable.{TruthTable}
use Rattle.vital_tables.specs.declared.table.VStateTable.{VStateTable}
use Rattle.vital_tables.specs.declared.model.VState.{VState}
use Rattle.vital_tables.specs.declared.model.VTruth.{VTruth}
use Rattle.vital_tables.specs.declared.model.OutValue.{OutValue}
use Rattle.vital_tables.specs.declared.model.OutValue.TheVariants as value
use Rattle.vital_tables.specs.declared.model.VOutput.{VOutput}
use Rattle.vital_tables.specs.declared.model.HPath.{HPath}
use Rattle.udp_tables.specs.declared.timing_checks.TimingCheck.{TimingCheck}
use Rattle.vital_tables.specs.declared.model.VEntity.{VEntity}
use Rattle.vital_tables.specs.Sound.{output_ports_from}
use Rattle.grammar_reader.specs.declared.refusal.Refusal.TheVariants.{Syntax, Undriven}
use Rattle.grammar_reader.specs.Texts.{Texts, IsText, text}
use Rattle.grammar_reader.specs.Words.{Grammar, ◌>>=◌}
use Rattle.vhdl_tokens.specs.Tokens.{lexis}
use Rattle.vhdl_grammar.specs.declared.scope.Columns.{Columns}
use Rattle.vhdl_grammar.specs.declared.scope.Assigned.{Assigned}
use Rattle.vhdl_grammar.specs.declared.scope.Assigned.TheVariants as assigned
use Rattle.vhdl_grammar.specs.declared.scope.Scope.{Scope}
use Rattle.vhdl_grammar.specs.VhdlRules.{expect, expect_all, expect_where, begins, new_name}
use Rattle.vhdl_grammar.specs.VhdlDeclarations.{packages, scope_of, input_names}
use Rattle.vhdl_grammar.specs.VhdlNames.{Uses}
use Rattle.vhdl_grammar.specs.VhdlChecks.{checks, violation, state_calls}
use Rattle.vhdl_grammar.specs.VhdlOutputs.{Lines, values_of, output_lines}

-- states: their tables, each with its columns
abbrev pub states_with : List VStateTable → List Columns → List VState
states_with [] columns = []
states_with (table ∷ tables) [] = []
states_with (table ∷ tables) (c ∷ columns) =
    record { table = table; violation = c.violation; inputs = c.inputs } ∷ states_with tables columns

-- conditions: their tables, each with its inputs
abbrev pub conditions_with : List TruthTable → Uses → List VTruth
conditions_with [] uses = []
conditions_with (table ∷ tables) [] = []
conditions_with (table ∷ tables) (inputs ∷ uses) = record { table = table; inputs = inputs } ∷ conditions_with tables uses

-- the values of outputs: constants, and look-ups, each of the next table
abbrev pub values_with : List TruthTable → List Assigned → List OutValue
values_with tables [] = []
values_with tables (assigned.Constant one ∷ values) = value.Constant one ∷ values_with tables values
values_with [] (assigned.Lookup sources ∷ values) = []
values_with (table ∷ tables) (assigned.Lookup sources ∷ values) = value.Table table sources ∷ values_with tables values

-- outputs: their ports, values and paths
abbrev pub outputs_with : List ℕ → List OutValue → List (List HPath) → List VOutput
outputs_with [] values paths = []
outputs_with (p ∷ ports) [] paths = []
outputs_with (p ∷ ports) (v ∷ values) [] = []
outputs_with (p ∷ ports) (v ∷ values) (these ∷ paths) =
    record { port = p; value = v; paths = these } ∷ outputs_with ports values paths

-- the entity of these declarations and statements
abbrev pub entity_with : Scope → List TimingCheck → List Columns → List Assigned → Lines → VEntity
entity_with scope all columns values lines =
    record {
      name = scope.name;
      ports = scope.ports;
      states = states_with scope.tables.states columns;
      conditions = conditions_with scope.tables.conditions lines.1;
      outputs = outputs_with (output_ports_from 0 scope.ports) (values_with scope.tables.outputs values) lines.0;
      checks = all;
    }

-- a process without a sensitivity list waits at its end (IEEE 1076-1993, 8.1)
abbrev pub last_wait : List (List ℕ) → Grammar (Unit {0})
last_wait [] = expect_all (codes "wait" ∷ codes ";" ∷ [])
last_wait (name ∷ names) = r.Gives tt

-- each condition was looked up
abbrev pub are_looked_up : Scope → Uses → Bool
are_looked_up scope uses = nat_eq (length uses) (length scope.tables.conditions)

-- [ "wait" ";" ] "end" "process" ";" "end" "vital" ";", behind all look-ups of conditions
unfoldable pub entity_end : Scope → Uses → Grammar (Unit {0})
entity_end scope uses = do
  _ ← last_wait (input_names scope.ports)
  _ ← expect_where (are_looked_up scope uses) Undriven (codes "end")
  expect_all (codes "process" ∷ codes ";" ∷ codes "end" ∷ codes "vital" ∷ codes ";" ∷ [])

-- the statements behind the declarations: the checks, the violation, the states, the values of the outputs, the outputs
unfoldable pub statements : Scope → Grammar VEntity
statements scope = do
  checked ← checks scope
  _ ← violation (length scope.variables.periods)
  columns ← state_calls scope
  values ← values_of scope
  lines ← output_lines scope checked.uses
  _ ← entity_end scope lines.1
  r.Gives (entity_with scope checked.checks columns values lines)

-- an entity behind "library", where entities of these names stand before it
unfoldable pub entity : List (List ℕ) → Grammar VEntity
entity names = do
  _ ← packages
  _ ← expect (codes "entity")
  name ← new_name names
  scope ← scope_of name
  statements scope

-- the names of entities
abbrev pub entity_names : List VEntity → List (List ℕ)
entity_names entities = map (λ (e : VEntity). e.name) entities

unfoldable pub next_entity : List VEntity → Grammar (List VEntity)
next_entity entities = do
  e ← entity (entity_names entities)
  r.Gives (entities ++ e ∷ [])

-- the grammar of a text: { entity }
unfoldable pub file : Grammar (List VEntity)
file = do
  entities ← r.Many (λ _. begins (codes "library")) (λ found _. next_entity found) []
  r.Last (λ _. Syntax) entities

-- the tokens of VHDL, its grammar and its faults
abbrev pub language : Texts (List VEntity) ModelFault
language = record { lexis = lexis; file = file; faults = model_faults }

-- the entities of a text, or its fault (`Texts`, `IsAnswer`)
unfoldable pub vhdl_text : List ℕ → Result (List VEntity) ModelFault
vhdl_text bytes = text language bytes

-- The bytes are the text of these entities: they are tokens, without a lexical fault, that the grammar takes.
abbrev pub IsVhdlText : List ℕ → List VEntity → Type 0
IsVhdlText = IsText language
