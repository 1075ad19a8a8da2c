-- When an entity is sound: each number names a thing that its place allows, each row has the length of its table, the outputs are
-- the output ports in their order, and each check has events of its kind. (IEEE 1076.4-2000; the restrictions on places are this
-- project's.)
use Rattle.std.specs.Prelude.{◌≡◌, ℕ, ◌+◌, Bool, true, All, ⊤, List, [], ◌∷◌, Option, Some, None, nat_lt, length, map, IsTrue}
use Rattle.std.specs.Prelude.{if◌then◌else◌}
use Rattle.std.specs.List.{list_all}
use Rattle.cell_machine.specs.declared.outputs.Source.{Source}
use Rattle.cell_machine.specs.declared.outputs.Source.TheVariants as source
use Rattle.cell_machine.specs.declared.checks.CheckKind.{CheckKind}
use Rattle.cell_machine.specs.CellRules as rule
use Rattle.vital_tables.specs.udp_tables.declared.models.VPort.{VPort}
use Rattle.vital_tables.specs.udp_tables.Ports.{is_input_port}
use Rattle.vital_tables.specs.declared.table.TruthTable.{TruthTable}
use Rattle.vital_tables.specs.declared.table.VStateTable.{VStateTable}
use Rattle.vital_tables.specs.declared.model.VState.{VState}
use Rattle.vital_tables.specs.declared.model.VTruth.{VTruth}
use Rattle.vital_tables.specs.declared.model.OutValue.{OutValue}
use Rattle.vital_tables.specs.declared.model.OutValue.TheVariants as value
use Rattle.vital_tables.specs.declared.model.VOutput.{VOutput}
use Rattle.vital_tables.specs.declared.model.HGate.{HGate}
use Rattle.vital_tables.specs.declared.model.HGate.TheVariants as gate
use Rattle.vital_tables.specs.declared.model.HPath.{HPath}
use Rattle.vital_tables.specs.udp_tables.declared.timing_checks.TimingCheck.{TimingCheck}
use Rattle.vital_tables.specs.declared.model.VEntity.{VEntity}

-- the numbers of the output ports, in order, where the first port has the number k
abbrev pub output_ports_from : ℕ → List VPort → List ℕ
output_ports_from k [] = []
output_ports_from k (port ∷ ports) = if port.input then output_ports_from (k + 1) ports else k ∷ output_ports_from (k + 1) ports

-- truth tables and state tables of so many columns
abbrev pub IsTruthTable : ℕ → TruthTable → Type 0
IsTruthTable columns table = All (λ row. length row.inputs ≡ columns) table.rows

abbrev pub IsStateTable : ℕ → VStateTable → Type 0
IsStateTable columns table = All (λ row. length row.inputs ≡ columns) table.rows

-- how many input columns the table of a state has: its inputs, and the violation
abbrev pub columns_of : VState → ℕ
columns_of state = if state.violation then length state.inputs + 1 else length state.inputs

-- A state: each row of its table has a symbol for each column, input ports feed it, and where there is a violation there are
-- checks.
pub record IsState (e : VEntity) (state : VState) : Type 0 where
  pub rows : IsStateTable (columns_of state) state.table
  pub fed : IsTrue (list_all (is_input_port e.ports) state.inputs)
  pub violated : IsTrue (if state.violation then nat_lt 0 (length e.checks) else true)

-- a condition: a truth table of input ports
pub record IsTruth (e : VEntity) (truth : VTruth) : Type 0 where
  pub rows : IsTruthTable (length truth.inputs) truth.table
  pub fed : IsTrue (list_all (is_input_port e.ports) truth.inputs)

-- whether this is an input port or a state
abbrev pub feeds : VEntity → Source → Bool
feeds e (source.Pin p) = is_input_port e.ports p
feeds e (source.State g) = nat_lt g (length e.states)

-- the value of an output: a constant, or a truth table of input ports and states
abbrev pub IsValue : VEntity → OutValue → Type 0
IsValue e (value.Constant one) = ⊤
IsValue e (value.Table table inputs) = IsTruthTable (length inputs) table × IsTrue (list_all (feeds e) inputs)

-- whether this is the number of a condition
abbrev pub is_condition_number : VEntity → ℕ → Bool
is_condition_number e i = nat_lt i (length e.conditions)

abbrev pub is_gate : VEntity → HGate → Bool
is_gate e gate.Always = true
is_gate e (gate.NotZero i) = is_condition_number e i
is_gate e (gate.AllZero is) = list_all (is_condition_number e) is

-- a path: from an input port, with conditions that are there
pub record IsPath (e : VEntity) (path : HPath) : Type 0 where
  pub starts : IsTrue (is_input_port e.ports path.from)
  pub gated : IsTrue (is_gate e path.gate)

pub record IsOutput (e : VEntity) (output : VOutput) : Type 0 where
  pub valued : IsValue e output.value
  pub paths : All (IsPath e) output.paths

-- The events of a check, by its kind. (Liberty Reference Manual, timing_type and the attributes min_pulse_width_high,
-- min_pulse_width_low and min_period.)
abbrev pub has_events : TimingCheck → CheckKind → Bool
has_events k = rule.has_events (record { kind = k.kind; first = k.first; second = k.second; limit = k.limit; condition = None })

abbrev pub is_enabling : VEntity → Option ℕ → Bool
is_enabling e None = true
is_enabling e (Some i) = is_condition_number e i

-- a check: of events of input ports, of its kind, with a condition that is there
pub record IsCheck (e : VEntity) (k : TimingCheck) : Type 0 where
  pub first : IsTrue (is_input_port e.ports k.first.pin)
  pub second : IsTrue (is_input_port e.ports k.second.pin)
  pub events : IsTrue (has_events k k.kind)
  pub enabled : IsTrue (is_enabling e k.condition)

-- A sound entity.
pub record IsSound (e : VEntity) : Type 0 where
  pub states : All (IsState e) e.states
  pub conditions : All (IsTruth e) e.conditions
  pub driven : map (λ (output : VOutput). output.port) e.outputs ≡ output_ports_from 0 e.ports
  pub outputs : All (IsOutput e) e.outputs
  pub checks : All (IsCheck e) e.checks
