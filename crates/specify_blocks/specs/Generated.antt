-- The module of a cell: its primitives in order, joined by nets, its arcs as paths and its checks. (IEEE 1364-2005, clauses 12,
-- 14 and 15; what is generated and the order is this project's choice.)
use Rattle.std.specs.Prelude.{ℕ, ◌+◌, Bool, true, false, ◌&&◌, List, [], ◌∷◌, ◌++◌, Option, Some, None, length, map, is_some}
use Rattle.std.specs.Prelude.{if◌then◌else◌}
use Rattle.std.specs.List.{list_any}
use Rattle.bool_functions.specs.declared.tree.Node.{Node}
use Rattle.bool_functions.specs.Tree.{value_of}
use Rattle.bool_functions.specs.Support.{support_of}
use Rattle.cell_machine.specs.declared.pins.Pin.{Pin}
use Rattle.cell_machine.specs.declared.groups.StateGroup.{StateGroup}
use Rattle.cell_machine.specs.declared.outputs.Source.{Source}
use Rattle.cell_machine.specs.declared.outputs.Source.TheVariants as source
use Rattle.cell_machine.specs.declared.outputs.OutputPin.{OutputPin}
use Rattle.cell_machine.specs.declared.checks.Check.{Check}
use Rattle.cell_machine.specs.declared.arcs.Arc.{Arc}
use Rattle.cell_machine.specs.Values.{no_values}
use Rattle.cell_machine.specs.CellTrace.{same_pins}
use Rattle.udp_tables.specs.declared.table.Udp.{Udp}
use Rattle.udp_tables.specs.Edges.{each_below}
use Rattle.cell_machine.specs.CellData.{CellData}
use Rattle.udp_tables.specs.Conditions.{conditions_of, condition_place}
use Rattle.udp_tables.specs.CellPrimitives.{has_notifier, group_primitive, condition_primitive, has_sources, output_primitive}
use Rattle.specify_blocks.specs.declared.model.VNet.{VNet}
use Rattle.specify_blocks.specs.declared.model.VNet.TheVariants as net
use Rattle.specify_blocks.specs.declared.model.Instance.{Instance}
use Rattle.specify_blocks.specs.declared.model.Instance.TheVariants as instance
use Rattle.specify_blocks.specs.declared.model.Gate.{Gate}
use Rattle.specify_blocks.specs.declared.model.Gate.TheVariants as gate
use Rattle.specify_blocks.specs.declared.model.VPath.{VPath}
use Rattle.udp_tables.specs.declared.timing_checks.TimingCheck.{TimingCheck}
use Rattle.udp_tables.specs.TimingChecks.{check_by}
use Rattle.specify_blocks.specs.declared.model.VModule.{VModule}
use Rattle.specify_blocks.specs.Ports.{port_number, ports_of}
use Rattle.specify_blocks.specs.Names.{module_name, state_wires, condition_wires, notifier_name}

-- how many conditions the cell has
abbrev pub condition_count : CellData → ℕ
condition_count cell = length (conditions_of cell)

-- the wires: the states, then the conditions
abbrev pub wires_of : CellData → List (List ℕ)
wires_of cell = state_wires (length cell.groups) ++ condition_wires (condition_count cell)

-- the register of the checks, where the cell has some
abbrev pub notifier_of : CellData → Option (List ℕ)
notifier_of cell = if has_notifier cell then Some notifier_name else None

-- the net of a pin: its port
abbrev pub pin_net : List Pin → ℕ → VNet
pin_net pins p = net.Port (port_number pins p)

-- the net of a source: the port of a pin, the wire of a state
abbrev pub source_net : List Pin → Source → VNet
source_net pins (source.Pin p) = pin_net pins p
source_net pins (source.State g) = net.Wire g

-- the net of the register of the checks, where there is one
abbrev pub notifier_nets : Bool → List VNet
notifier_nets false = []
notifier_nets true = net.Notifier ∷ []

-- the number of condition i among the wires, and that of its primitive among the primitives
abbrev pub condition_wire : CellData → ℕ → ℕ
condition_wire cell i = length cell.groups + i

-- what a function makes of each entry of a list and its number, where the first entry has the number k
abbrev pub each_from : {X Y : Type 0} → (ℕ → X → Y) → ℕ → List X → List Y
each_from make k [] = []
each_from make k (x ∷ xs) = make k x ∷ each_from make (k + 1) xs

-- the instance of group g drives the wire of its state; the pins of its support feed it, and the notifier
abbrev pub group_instance : CellData → ℕ → StateGroup → Instance
group_instance cell g group =
    instance.Primitive g (net.Wire g) (map (pin_net cell.pins) group.support ++ notifier_nets (has_notifier cell))

-- the instance of condition i drives its wire; the pins that it names feed it
abbrev pub condition_instance : CellData → ℕ → Node → Instance
condition_instance cell i f =
    instance.Primitive (condition_wire cell i) (net.Wire (condition_wire cell i)) (map (pin_net cell.pins) (support_of f))

-- The instance of an output, where the next primitive has the number j, drives its port; the pins and states of its support
-- feed it. Where the support is empty it is a constant.
abbrev pub output_instance : CellData → ℕ → OutputPin → Instance
output_instance cell j output =
    if has_sources output then instance.Primitive j (pin_net cell.pins output.pin) (map (source_net cell.pins) output.support)
    else instance.Constant (pin_net cell.pins output.pin) (value_of no_values output.function)

-- the number of the next primitive after that of an output
abbrev pub after_output : ℕ → OutputPin → ℕ
after_output j output = if has_sources output then j + 1 else j

-- the instances of outputs, where the next primitive has the number j
abbrev pub output_instances : CellData → ℕ → List OutputPin → List Instance
output_instances cell j [] = []
output_instances cell j (output ∷ outputs) =
    output_instance cell j output ∷ output_instances cell (after_output j output) outputs

-- the instances: groups, conditions, outputs
abbrev pub instances_of : CellData → List Instance
instances_of cell =
    each_from (group_instance cell) 0 cell.groups
    ++ (each_from (condition_instance cell) 0 (conditions_of cell)
    ++ output_instances cell (length cell.groups + condition_count cell) cell.outputs)

-- the primitives of the outputs that have sources, where the first output has the number i
abbrev pub output_primitives : CellData → ℕ → List OutputPin → List Udp
output_primitives cell i [] = []
output_primitives cell i (output ∷ outputs) =
    (if has_sources output then output_primitive cell i ∷ output_primitives cell (i + 1) outputs
    else output_primitives cell (i + 1) outputs)

-- the primitives of the groups and of the conditions
abbrev pub group_primitives : CellData → List Udp
group_primitives cell = each_below (λ g. group_primitive cell g ∷ []) (length cell.groups)

abbrev pub condition_primitives : CellData → List Udp
condition_primitives cell = each_below (λ i. condition_primitive cell i ∷ []) (condition_count cell)

-- the primitives: groups, conditions, outputs
abbrev pub primitives_of : CellData → List Udp
primitives_of cell = group_primitives cell ++ (condition_primitives cell ++ output_primitives cell 0 cell.outputs)

-- the wire of a condition
abbrev pub wire_of : CellData → Node → ℕ
wire_of cell f = condition_wire cell (condition_place (conditions_of cell) f)

-- whether an arc with a condition has the two pins of this one
abbrev pub is_conditional : Arc → Arc → Bool
is_conditional arc other = same_pins arc other && is_some other.condition

-- An arc with a condition counts by its wire. One without is `ifnone` where an arc with a condition has its two pins, and
-- counts always where none has.
abbrev pub gate_by : CellData → Arc → Option Node → Gate
gate_by cell arc None = if list_any (is_conditional arc) cell.arcs then gate.IfNone else gate.Always
gate_by cell arc (Some f) = gate.If (wire_of cell f)

-- the path of an arc
abbrev pub path_of : CellData → Arc → VPath
path_of cell arc =
    record {
      from = port_number cell.pins arc.from;
      to = port_number cell.pins arc.to;
      rise = arc.rise;
      fall = arc.fall;
      gate = gate_by cell arc arc.condition;
    }

-- a check of a module
abbrev pub check_of : CellData → Check → TimingCheck
check_of cell = check_by (wire_of cell) cell.pins

-- The module of a cell.
abbrev pub module_of : CellData → VModule
module_of cell =
    record {
      name = module_name cell.number cell.name;
      ports = ports_of cell.pins;
      wires = wires_of cell;
      notifier = notifier_of cell;
      udps = primitives_of cell;
      instances = instances_of cell;
      paths = map (path_of cell) cell.arcs;
      checks = map (check_of cell) cell.checks;
    }
