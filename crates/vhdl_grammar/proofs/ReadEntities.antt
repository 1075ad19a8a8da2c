-- Entities that are read: the parts that declarations and statements give make up an entity that a text can tell.
use Rattle.std.proofs.Common.{◌≡◌, ℕ, suc, ◌<◌, ◌≤◌, Bool, true, ◌&&◌, nat_lt, if◌then◌else◌, IsTrue, List, [], ◌∷◌, ◌++◌, length}
use Rattle.std.proofs.Common.{map, get_or, Option, Some, None, refl, sym, ap, subst, ◌∙◌, arith}
use Rattle.std.specs.Prelude.{All, flat_map}
use Rattle.std.specs.List.{list_all}
use Rattle.std.proofs.lemmas.Bool.{eq-eqb}
use Rattle.std.proofs.lemmas.List.{append-nil}
use Rattle.std.proofs.lemmas.List.Elements.{All-nil, All-cons, All-head, All-tail}
use Rattle.cell_machine.specs.declared.outputs.Source.{Source}
use Rattle.cell_machine.specs.declared.outputs.Source.TheVariants as source
use Rattle.udp_tables.specs.declared.models.VPort.{VPort}
use Rattle.vital_tables.specs.declared.table.TruthTable.{TruthTable}
use Rattle.vital_tables.specs.declared.table.TruthRow.{TruthRow}
use Rattle.vital_tables.specs.declared.table.VStateTable.{VStateTable}
use Rattle.vital_tables.specs.declared.table.VStateRow.{VStateRow}
use Rattle.vital_tables.specs.declared.model.VState.{VState}
use Rattle.vital_tables.specs.declared.model.VTruth.{VTruth}
use Rattle.vital_tables.specs.declared.model.OutValue.{OutValue}
use Rattle.vital_tables.specs.declared.model.VOutput.{VOutput}
use Rattle.vital_tables.specs.declared.model.HGate.{HGate}
use Rattle.vital_tables.specs.declared.model.HGate.TheVariants as gate
use Rattle.vital_tables.specs.declared.model.HPath.{HPath}
use Rattle.udp_tables.specs.declared.timing_checks.TimingCheck.{TimingCheck}
use Rattle.vital_tables.specs.declared.model.VEntity.{VEntity}
use Rattle.vital_tables.specs.Sound.{output_ports_from, IsState, IsTruth, feeds, IsValue, is_gate, IsPath, IsOutput, is_enabling}
use Rattle.vital_tables.specs.Sound.{IsCheck}
use Rattle.udp_tables.specs.Ports.{is_input_port}
use Rattle.vhdl_grammar.specs.declared.scope.Columns.{Columns}
use Rattle.vhdl_grammar.specs.declared.scope.Assigned.{Assigned}
use Rattle.vhdl_grammar.specs.declared.scope.Assigned.TheVariants as assigned
use Rattle.vhdl_grammar.specs.declared.scope.Scope.{Scope}
use Rattle.vhdl_grammar.specs.VhdlTables.{state_width, truth_width}
use Rattle.vhdl_grammar.specs.VhdlDeclarations.{port_names, output_count}
use Rattle.vhdl_grammar.specs.VhdlNames.{Uses}
use Rattle.vhdl_grammar.specs.VhdlChecks.{Checks}
use Rattle.vhdl_grammar.specs.VhdlOutputs.{Lines}
use Rattle.vhdl_grammar.specs.VhdlText.{states_with, conditions_with, values_with, outputs_with, entity_with, are_looked_up}
use Rattle.vhdl_grammar.specs.WellFormed.{part_count, IsWellFormedEntity, IsEntityName, AreApart, IsNumber, IsCount}
use Rattle.vhdl_grammar.specs.WellFormed.{IsWrittenState, IsWrittenTruth, IsWrittenValue, IsWrittenOutput, conditions_of_check}
use Rattle.vhdl_grammar.specs.WellFormed.{conditions_of_output, looked_up, looks_up_in_order}
use Rattle.vhdl_grammar.proofs.ReadTables.{HasStateRows, HasTruthRows}
use Rattle.vhdl_grammar.proofs.ReadHeaders.{IsScope}
use Rattle.vhdl_grammar.proofs.ReadLists.{AreUses}
use Rattle.vhdl_grammar.proofs.ReadChecks.{IsToldCheck, is_enabled_in, AreAllChecks}
use Rattle.vhdl_grammar.proofs.ReadColumns.{AreSoMany, AreStates, width_in, AreAllStates, feeds_in}
use Rattle.vhdl_grammar.proofs.ReadOutputs.{AreValues, AreAllValues, is_gate_in, IsToldPath, IsToldLine, conditions_of_line}
use Rattle.vhdl_grammar.proofs.ReadOutputs.{AreAllLines}

-- An entity that has these ports, and as many checks, states and conditions as its declarations say.
record IsOf (scope : Scope) (e : VEntity) : Type 0 where
  ports : e.ports ≡ scope.ports
  checks : length e.checks ≡ length scope.variables.periods
  states : length e.states ≡ length scope.tables.states
  conditions : length e.conditions ≡ length scope.tables.conditions

-- States.

record IsGoodState (e : VEntity) (state : VState) : Type 0 where
  sound : IsState e state
  written : IsWrittenState state

one_state : (scope : Scope) (e : VEntity) → IsOf scope e → (table : VStateTable) (columns : Columns) → HasStateRows table
    → IsNumber (state_width table.rows)
    → AreSoMany scope (state_width table.rows) columns
    → IsGoodState e (record { table = table; violation = columns.violation; inputs = columns.inputs })
one_state scope e of table columns rows number h = record {
  sound = record {
    rows = subst (λ (n : ℕ). All (λ (row : VStateRow). length row.inputs ≡ n) table.rows) (sym h.count) rows.even;
    fed = subst (λ (ports : List VPort). IsTrue (list_all (is_input_port ports) columns.inputs)) (sym of.ports) h.all.inputs.fed;
    violated = subst (λ (n : ℕ). IsTrue (if columns.violation then nat_lt 0 n else true)) (sym of.checks) h.all.violated;
  };
  written = record {
    rows = rows.some;
    columns = subst (λ (n : ℕ). 1 ≤ n) (sym h.count) rows.wide;
    width = subst IsNumber (sym h.count) number;
    edges = rows.edges;
    apart = h.all.inputs.apart;
  };
}

good_states : (scope : Scope) (e : VEntity) → IsOf scope e → (tables : List VStateTable) (states : List Columns)
    → All HasStateRows tables
    → ((g : ℕ) → g < length tables → IsNumber (width_in tables g)) → AreStates scope tables states
    → All (IsGoodState e) (states_with tables states)
good_states scope e of [] states rows numbers h = All-nil (IsGoodState e)
good_states scope e of (table ∷ tables) [] rows numbers h = All-nil (IsGoodState e)
good_states scope e of (table ∷ tables) (columns ∷ states) rows numbers h =
    All-cons (IsGoodState e) (record { table = table; violation = columns.violation; inputs = columns.inputs })
    (states_with tables states)
    (one_state scope e of table columns (All-head HasStateRows table tables rows) (numbers 0 (omega arith)) h.0)
    (good_states scope e of tables states (All-tail HasStateRows table tables rows) (λ g below. numbers (suc g) (omega arith))
    h.1)

states_count : (tables : List VStateTable) (states : List Columns) → length states ≡ length tables
    → length (states_with tables states) ≡ length tables
states_count [] states h = refl
states_count (table ∷ tables) [] h = absurd (omega arith)
states_count (table ∷ tables) (columns ∷ states) h = let rest = states_count tables states (omega arith) in omega (arith, rest)

conditions_count : (tables : List TruthTable) (uses : Uses) → length uses ≡ length tables
    → length (conditions_with tables uses) ≡ length tables
conditions_count [] uses h = refl
conditions_count (table ∷ tables) [] h = absurd (omega arith)
conditions_count (table ∷ tables) (inputs ∷ uses) h = let rest = conditions_count tables uses (omega arith) in omega (arith, rest)

-- the rows of a truth table are as long as what its columns look up, of which there is something
columns_fit : {C : Type 0} (table : TruthTable) (columns : List C) → HasTruthRows table
    → length columns ≡ truth_width table.rows
    → All (λ (row : TruthRow). length row.inputs ≡ length columns) table.rows × (1 ≤ length columns)
columns_fit table columns rows count = (
  subst (λ (n : ℕ). All (λ (row : TruthRow). length row.inputs ≡ n) table.rows) (sym count) rows.even,
  subst (λ (n : ℕ). 1 ≤ n) (sym count) rows.wide,
)

-- Conditions.

record IsGoodTruth (e : VEntity) (truth : VTruth) : Type 0 where
  sound : IsTruth e truth
  written : IsWrittenTruth truth

good_conditions : (scope : Scope) (e : VEntity) → IsOf scope e → (tables : List TruthTable) (uses : Uses)
    → All HasTruthRows tables
    → AreUses scope.ports tables uses → All (IsGoodTruth e) (conditions_with tables uses)
good_conditions scope e of [] uses rows h = All-nil (IsGoodTruth e)
good_conditions scope e of (table ∷ tables) [] rows h = All-nil (IsGoodTruth e)
good_conditions scope e of (table ∷ tables) (inputs ∷ uses) rows h =
    let first = All-head HasTruthRows table tables rows in
    let fit = columns_fit table inputs first h.0.count in
    All-cons (IsGoodTruth e) (record { table = table; inputs = inputs }) (conditions_with tables uses)
    (record {
      sound = record {
        rows = fit.0;
        fed = subst (λ (ports : List VPort). IsTrue (list_all (is_input_port ports) inputs)) (sym of.ports) h.0.all.fed;
      };
      written = record { rows = first.some; columns = fit.1; apart = h.0.all.apart };
    })
    (good_conditions scope e of tables uses (All-tail HasTruthRows table tables rows) h.1)

-- Values.

record IsGoodValue (e : VEntity) (v : OutValue) : Type 0 where
  sound : IsValue e v
  written : IsWrittenValue v

feeds_same : (scope : Scope) (e : VEntity) → IsOf scope e → (s : Source) → feeds_in scope s ≡ feeds e s
feeds_same scope e of (source.Pin p) = ap (λ (ports : List VPort). is_input_port ports p) (sym of.ports)
feeds_same scope e of (source.State g) = ap (λ (n : ℕ). nat_lt g n) (sym of.states)

all_feed : (scope : Scope) (e : VEntity) → IsOf scope e → (sources : List Source)
    → list_all (feeds_in scope) sources ≡ list_all (feeds e) sources
all_feed scope e of [] = refl
all_feed scope e of (s ∷ sources) =
    ap (λ (b : Bool). b && list_all (feeds_in scope) sources) (feeds_same scope e of s)
    ∙ ap (λ (b : Bool). feeds e s && b) (all_feed scope e of sources)

good_values : (scope : Scope) (e : VEntity) → IsOf scope e → (tables : List TruthTable) (values : List Assigned)
    → All HasTruthRows tables
    → AreValues scope tables values → All (IsGoodValue e) (values_with tables values)
good_values scope e of tables [] rows h = All-nil (IsGoodValue e)
good_values scope e of tables (assigned.Constant one ∷ values) rows h =
    All-cons (IsGoodValue e) _ (values_with tables values) (record { sound = tt; written = tt })
    (good_values scope e of tables values rows h)
good_values scope e of [] (assigned.Lookup sources ∷ values) rows h = All-nil (IsGoodValue e)
good_values scope e of (table ∷ tables) (assigned.Lookup sources ∷ values) rows h =
    let first = All-head HasTruthRows table tables rows in
    let fit = columns_fit table sources first h.0.count in
    All-cons (IsGoodValue e) _ (values_with tables values)
    (record {
      sound = (fit.0, sym (all_feed scope e of sources) ∙ h.0.all.fed);
      written = record { rows = first.some; columns = fit.1; apart = h.0.all.apart };
    })
    (good_values scope e of tables values (All-tail HasTruthRows table tables rows) h.1)

values_count : (scope : Scope) (tables : List TruthTable) (values : List Assigned) → AreValues scope tables values
    → length (values_with tables values) ≡ length values
values_count scope tables [] h = refl
values_count scope tables (assigned.Constant one ∷ values) h = let rest = values_count scope tables values h
    in omega (arith, rest)
values_count scope [] (assigned.Lookup sources ∷ values) h = absurd h
values_count scope (table ∷ tables) (assigned.Lookup sources ∷ values) h = let rest = values_count scope tables values h.1
    in omega (arith, rest)

-- Outputs.

gate_same : (e : VEntity) (g : HGate) → is_gate_in (length e.conditions) g ≡ is_gate e g
gate_same e gate.Always = refl
gate_same e (gate.NotZero i) = refl
gate_same e (gate.AllZero is) = refl

path_sound : (scope : Scope) (e : VEntity) → IsOf scope e → (path : HPath) → IsToldPath scope path → IsPath e path
path_sound scope e of path h = record {
  starts = subst (λ (ports : List VPort). IsTrue (is_input_port ports path.from)) (sym of.ports) h.starts;
  gated = sym (gate_same e path.gate) ∙ subst (λ (n : ℕ). IsTrue (is_gate_in n path.gate)) (sym of.conditions) h.gated;
}

record IsGoodOutput (e : VEntity) (output : VOutput) : Type 0 where
  sound : IsOutput e output
  written : IsWrittenOutput output

good_outputs : (scope : Scope) (e : VEntity) → IsOf scope e
    → (ports : List ℕ) (values : List OutValue) (lines : List (List HPath))
    → All (IsGoodValue e) values → All (IsToldLine scope) lines → All (IsGoodOutput e) (outputs_with ports values lines)
good_outputs scope e of [] values lines h told = All-nil (IsGoodOutput e)
good_outputs scope e of (p ∷ ports) [] lines h told = All-nil (IsGoodOutput e)
good_outputs scope e of (p ∷ ports) (v ∷ values) [] h told = All-nil (IsGoodOutput e)
good_outputs scope e of (p ∷ ports) (v ∷ values) (line ∷ lines) h told =
    let first = All-head (IsGoodValue e) v values h in
    let paths = All-head (IsToldLine scope) line lines told in
    All-cons (IsGoodOutput e) (record { port = p; value = v; paths = line }) (outputs_with ports values lines)
    (record {
      sound = record {
        valued = first.sound;
        paths =
            λ k d below. path_sound scope e of (get_or line k d) (paths.told k d below);
      };
      written = record { valued = first.written; paths = λ k d below. (paths.told k d below).written; few = paths.few };
    })
    (good_outputs scope e of ports values lines (All-tail (IsGoodValue e) v values h)
    (All-tail (IsToldLine scope) line lines told))

driven_ports : (ports : List ℕ) (values : List OutValue) (lines : List (List HPath)) → length values ≡ length ports
    → length lines ≡ length ports
    → map (λ (output : VOutput). output.port) (outputs_with ports values lines) ≡ ports
driven_ports [] values lines h k = refl
driven_ports (p ∷ ports) [] lines h k = absurd (omega arith)
driven_ports (p ∷ ports) (v ∷ values) [] h k = absurd (omega arith)
driven_ports (p ∷ ports) (v ∷ values) (line ∷ lines) h k =
    ap (λ (ps : List ℕ). p ∷ ps) (driven_ports ports values lines (omega arith) (omega arith))

output_conditions : (ports : List ℕ) (values : List OutValue) (lines : List (List HPath)) → length values ≡ length ports
    → length lines ≡ length ports
    → flat_map conditions_of_output (outputs_with ports values lines) ≡ flat_map conditions_of_line lines
output_conditions [] values [] h k = refl
output_conditions [] values (line ∷ lines) h k = absurd (omega arith)
output_conditions (p ∷ ports) [] lines h k = absurd (omega arith)
output_conditions (p ∷ ports) (v ∷ values) [] h k = absurd (omega arith)
output_conditions (p ∷ ports) (v ∷ values) (line ∷ lines) h k =
    ap (λ (is : List ℕ). conditions_of_line line ++ is) (output_conditions ports values lines (omega arith) (omega arith))

-- Checks.

enabled_same : (e : VEntity) (when : Option ℕ) → is_enabled_in (length e.conditions) when ≡ is_enabling e when
enabled_same e None = refl
enabled_same e (Some i) = refl

check_sound : (scope : Scope) (e : VEntity) → IsOf scope e → (k : TimingCheck) → IsToldCheck scope k → IsCheck e k
check_sound scope e of k h = record {
  first = subst (λ (ports : List VPort). IsTrue (is_input_port ports k.first.pin)) (sym of.ports) h.first;
  second = subst (λ (ports : List VPort). IsTrue (is_input_port ports k.second.pin)) (sym of.ports) h.second;
  events = h.events;
  enabled = sym (enabled_same e k.condition)
      ∙ subst (λ (n : ℕ). IsTrue (is_enabled_in n k.condition)) (sym of.conditions) h.enabled;
}

-- Entities.

-- the entity is well formed, if it has not too many parts
abbrev pub IsReadEntity : VEntity → Type 0
IsReadEntity e = IsCount (part_count e) → IsWellFormedEntity e

-- the statements of an entity of these declarations
pub record AreStatements (scope : Scope) (all : Checks) (columns : List Columns) (values : List Assigned) (lines : Lines) :
    Type 0 where
  pub checks : AreAllChecks scope all
  pub states : AreAllStates scope columns
  pub valued : AreAllValues scope values
  pub lined : AreAllLines scope (flat_map conditions_of_check all.checks) lines
  pub looked_up : are_looked_up scope lines.1 ≡ true

is_of : (scope : Scope) (all : Checks) (columns : List Columns) (values : List Assigned) (lines : Lines)
    → AreStatements scope all columns values lines
    → length lines.1 ≡ length scope.tables.conditions → IsOf scope (entity_with scope all.checks columns values lines)
is_of scope all columns values lines h n = record {
  ports = refl;
  checks = h.checks.count;
  states = states_count scope.tables.states columns h.states.count;
  conditions = conditions_count scope.tables.conditions lines.1 n;
}

in_order : (scope : Scope) (all : Checks) (columns : List Columns) (values : List Assigned) (lines : Lines)
    → AreStatements scope all columns values lines
    → length lines.1 ≡ length scope.tables.conditions
    → IsTrue (looks_up_in_order (length (conditions_with scope.tables.conditions lines.1)) 0
    (looked_up (entity_with scope all.checks columns values lines)))
in_order scope all columns values lines h n =
    let values_are : length (values_with scope.tables.outputs values) ≡ output_count scope.ports =
    values_count scope scope.tables.outputs values h.valued.are ∙ h.valued.count in
    let outputs = output_conditions (output_ports_from 0 scope.ports) (values_with scope.tables.outputs values) lines.0 values_are
    h.lined.count in
    let is : List ℕ = flat_map conditions_of_check all.checks in
    ap (λ (m : ℕ). looks_up_in_order m 0 (looked_up (entity_with scope all.checks columns values lines)))
    (conditions_count scope.tables.conditions lines.1 n)
    ∙ ap (λ (js : List ℕ). looks_up_in_order (length scope.tables.conditions) 0 (flat_map conditions_of_check all.checks ++ js))
    outputs
    ∙ ap (looks_up_in_order (length scope.tables.conditions) 0)
    (sym (append-nil (flat_map conditions_of_check all.checks ++ flat_map conditions_of_line lines.0)))
    ∙ h.lined.are.looked_up.order []
    ∙ eq-eqb (length lines.1) (length scope.tables.conditions) n

pub read_entity : (name : List ℕ) (scope : Scope) (all : Checks) (columns : List Columns) (values : List Assigned) (lines : Lines)
    → IsEntityName name → IsScope name scope
    → AreStatements scope all columns values lines → length lines.1 ≡ length scope.tables.conditions
    → IsReadEntity (entity_with scope all.checks columns values lines)
read_entity name scope all columns values lines named s h n few =
    let e : VEntity = entity_with scope all.checks columns values lines in
    let of : IsOf scope e = is_of scope all columns values lines h n in
    let values_are : length (values_with scope.tables.outputs values) ≡ output_count scope.ports =
    values_count scope scope.tables.outputs values h.valued.are ∙ h.valued.count in
    let states = good_states scope e of scope.tables.states columns s.tables.states s.variables.numbers h.states.are in
    let conditions = good_conditions scope e of scope.tables.conditions lines.1 s.tables.conditions h.lined.are.looked_up.lists in
    let outputs = good_outputs scope e of (output_ports_from 0 scope.ports) (values_with scope.tables.outputs values) lines.0
    (good_values scope e of scope.tables.outputs values s.tables.outputs h.valued.are) h.lined.are.told in
    record {
      name = subst IsEntityName (sym s.named) named;
      ports = s.ports.names;
      apart = subst (λ (x : List ℕ). AreApart (x ∷ port_names scope.ports)) (sym s.named) s.ports.apart;
      sound = record {
        states = λ k d below. (states k d below).sound;
        conditions = λ k d below. (conditions k d below).sound;
        driven = driven_ports (output_ports_from 0 scope.ports) (values_with scope.tables.outputs values) lines.0 values_are
            h.lined.count;
        outputs = λ k d below. (outputs k d below).sound;
        checks = λ k d below. check_sound scope e of (get_or all.checks k d) (h.checks.are.told k d below);
      };
      states = λ k d below. (states k d below).written;
      conditions = λ k d below. (conditions k d below).written;
      in_order = in_order scope all columns values lines h n;
      outputs = λ k d below. (outputs k d below).written;
      limits = λ k d below. (h.checks.are.told k d below).limit;
      few = few;
    }
