-- The entity of a cell: its states, conditions, outputs and checks, over the numbers of ports. (IEEE 1076.4-2000; what is
-- generated and the order is this project's choice.)
use Rattle.std.specs.Prelude.{ℕ, Bool, List, [], ◌∷◌, Option, Some, None, length, map, filter, nat_eq, if◌then◌else◌}
use Rattle.bool_functions.specs.declared.tree.Node.{Node}
use Rattle.bool_functions.specs.Tree.{value_of}
use Rattle.bool_functions.specs.Support.{support_of}
use Rattle.cell_machine.specs.declared.pins.Pin.{Pin}
use Rattle.cell_machine.specs.declared.outputs.Source.{Source}
use Rattle.cell_machine.specs.declared.outputs.Source.TheVariants as source
use Rattle.cell_machine.specs.declared.outputs.OutputPin.{OutputPin}
use Rattle.cell_machine.specs.declared.checks.Check.{Check}
use Rattle.cell_machine.specs.declared.arcs.Arc.{Arc}
use Rattle.cell_machine.specs.Values.{no_values}
use Rattle.cell_machine.specs.Outputs.{output_at, condition_at}
use Rattle.vital_tables.specs.udp_tables.Edges.{each_below}
use Rattle.cell_machine.specs.CellData.{CellData}
use Rattle.vital_tables.specs.udp_tables.Conditions.{conditions_of, condition_place, conditions_beside}
use Rattle.cell_machine.specs.CellTrace.{support_at, step_at}
use Rattle.vital_tables.specs.udp_tables.CellPrimitives.{has_notifier, has_sources}
use Rattle.vital_tables.specs.declared.table.TruthTable.{TruthTable}
use Rattle.vital_tables.specs.declared.table.VStateTable.{VStateTable}
use Rattle.vital_tables.specs.declared.model.VState.{VState}
use Rattle.vital_tables.specs.declared.model.VTruth.{VTruth}
use Rattle.vital_tables.specs.declared.model.OutValue.{OutValue}
use Rattle.vital_tables.specs.declared.model.OutValue.TheVariants as value
use Rattle.vital_tables.specs.declared.model.VOutput.{VOutput}
use Rattle.vital_tables.specs.declared.model.HGate.{HGate}
use Rattle.vital_tables.specs.declared.model.HGate.TheVariants as gate
use Rattle.vital_tables.specs.declared.model.HPath.{HPath}
use Rattle.vital_tables.specs.udp_tables.declared.timing_checks.TimingCheck.{TimingCheck}
use Rattle.vital_tables.specs.udp_tables.TimingChecks.{check_by}
use Rattle.vital_tables.specs.declared.model.VEntity.{VEntity}
use Rattle.vital_tables.specs.Rows.{truth_rows, compact_rows}
use Rattle.vital_models.specs.Ports.{port_number, ports_of}

-- whether state tables have a column of the violation: the cell has checks
abbrev pub has_violation : CellData → Bool
has_violation = has_notifier

-- the ports of these pins
abbrev pub ports_at : List Pin → List ℕ → List ℕ
ports_at pins support = map (port_number pins) support

-- The state table of group g over its support. Its rows are in compact form: two that hold the state are one.
abbrev pub state_table : CellData → ℕ → VStateTable
state_table cell g = record { rows = compact_rows (has_violation cell) (length (support_at cell g)) (step_at cell g) }

-- the state of group g
abbrev pub state_of : CellData → ℕ → VState
state_of cell g =
    record { table = state_table cell g; violation = has_violation cell; inputs = ports_at cell.pins (support_at cell g) }

abbrev pub states_of : CellData → List VState
states_of cell = each_below (λ g. state_of cell g ∷ []) (length cell.groups)

-- the truth table of a condition over the pins that it names
abbrev pub condition_table : Node → TruthTable
condition_table f = record { rows = truth_rows (length (support_of f)) (condition_at (support_of f) f) }

abbrev pub condition_of : List Pin → Node → VTruth
condition_of pins f = record { table = condition_table f; inputs = ports_at pins (support_of f) }

-- the truth table of an output over its support
abbrev pub output_table : CellData → OutputPin → TruthTable
output_table cell output =
    record { rows = truth_rows (length output.support) (output_at (length cell.pins) cell.groups output) }

-- a source: the port of a pin, or a state
abbrev pub source_at : List Pin → Source → Source
source_at pins (source.Pin p) = source.Pin (port_number pins p)
source_at pins (source.State g) = source.State g

-- the value of an output: a constant where it depends on nothing, else a table
abbrev pub value_of_output : CellData → OutputPin → OutValue
value_of_output cell output =
    (if has_sources output then value.Table (output_table cell output) (map (source_at cell.pins) output.support)
    else value.Constant (value_of no_values output.function))

-- the number of a condition
abbrev pub place_of : CellData → Node → ℕ
place_of cell f = condition_place (conditions_of cell) f

-- where these conditions are all 0; always where there is none
abbrev pub all_zero : List ℕ → HGate
all_zero [] = gate.Always
all_zero (i ∷ is) = gate.AllZero (i ∷ is)

-- An arc with a condition counts where that is not 0. One without counts where the conditions of all arcs of its two pins, in
-- their order, are 0.
abbrev pub gate_by : CellData → Arc → Option Node → HGate
gate_by cell arc None = all_zero (map (place_of cell) (conditions_beside cell.arcs arc))
gate_by cell arc (Some f) = gate.NotZero (place_of cell f)

-- the path of an arc
abbrev pub path_of : CellData → Arc → HPath
path_of cell arc =
    record { from = port_number cell.pins arc.from; rise = arc.rise; fall = arc.fall; gate = gate_by cell arc arc.condition }

-- the paths of the arcs that end at this pin
abbrev pub paths_to : CellData → ℕ → List HPath
paths_to cell p = map (path_of cell) (filter (λ (arc : Arc). nat_eq arc.to p) cell.arcs)

abbrev pub output_of : CellData → OutputPin → VOutput
output_of cell output =
    record {
      port = port_number cell.pins output.pin;
      value = value_of_output cell output;
      paths = paths_to cell output.pin;
    }

-- a check of an entity
abbrev pub check_of : CellData → Check → TimingCheck
check_of cell = check_by (place_of cell) cell.pins

-- The entity of a cell, with this name.
abbrev pub entity_of : CellData → List ℕ → VEntity
entity_of cell name =
    record {
      name = name;
      ports = ports_of name cell.pins;
      states = states_of cell;
      conditions = map (condition_of cell.pins) (conditions_of cell);
      outputs = map (output_of cell) cell.outputs;
      checks = map (check_of cell) cell.checks;
    }
