-- Whether the parts of a module are those of a cell, apart from the values of its tables.
use Rattle.std.specs.Prelude.{ℕ, ◌+◌, Bool, true, false, not, ◌&&◌, List, [], ◌∷◌, length, map, filter, find, flat_map, nat_eq}
use Rattle.std.specs.Prelude.{Option, Some, None, slice_get}
use Rattle.std.specs.List.{list_any, range_with_len}
use Rattle.bool_functions.specs.declared.tree.Node.{Node}
use Rattle.cell_machine.specs.declared.pins.Pin.{Pin}
use Rattle.cell_machine.specs.declared.checks.CheckKind.{CheckKind}
use Rattle.cell_machine.specs.declared.checks.CheckKind.TheVariants as kind
use Rattle.cell_machine.specs.declared.checks.Edge.{Edge}
use Rattle.cell_machine.specs.declared.checks.Edge.TheVariants as edge
use Rattle.cell_machine.specs.declared.checks.Event.{Event}
use Rattle.cell_machine.specs.declared.checks.Check.{Check}
use Rattle.cell_machine.specs.declared.arcs.Arc.{Arc}
use Rattle.cell_machine.specs.Inputs.{is_input_at}
use Rattle.cell_machine.specs.CellData.{CellData}
use Rattle.udp_tables.specs.declared.models.VPort.{VPort}
use Rattle.udp_tables.specs.declared.timing_checks.TimingCheck.{TimingCheck}
use Rattle.udp_tables.specs.Ports.{is_port, port_number, event_of}
use Rattle.specify_blocks.specs.declared.model.Gate.{Gate}
use Rattle.specify_blocks.specs.declared.model.Gate.TheVariants as gate
use Rattle.specify_blocks.specs.declared.model.VPath.{VPath}
use Rattle.specify_blocks.specs.declared.model.VModule.{VModule}
use Rattle.specify_blocks.specs.Generated.{is_conditional}
use Rattle.module_shapes.specs.declared.shape.ShapeTest.{ShapeTest}
use Rattle.module_shapes.specs.declared.shape_parts.ShapePart.{ShapePart}
use Rattle.module_shapes.specs.declared.shape_parts.ShapePart.TheVariants as part
use Rattle.module_terminals.specs.Terminals.{sequential_instances}
use Rattle.module_terminals.specs.Feeding.{feeds_group, check_gating, path_gating, feeds_gating, feeds_output}

-- which ports are inputs: those of a cell's models, which are its input and output pins in their order, and those of a module
abbrev pub cell_inputs : CellData → List Bool
cell_inputs d = map is_input_at (filter is_port d.pins)

abbrev pub port_inputs : VModule → List Bool
port_inputs m = map (λ (port : VPort). port.input) m.ports

-- the same list
abbrev pub same_bit : Bool → Bool → Bool
same_bit true b = b
same_bit false b = not b

abbrev pub same_bits : List Bool → List Bool → Bool
same_bits [] [] = true
same_bits (a ∷ as') (b ∷ bs) = same_bit a b && same_bits as' bs
same_bits _ _ = false

-- two entries at one place, where both lists have it
abbrev pub both : {X Y : Type 0} → (X → Y → Bool) → Option X → Option Y → Bool
both test (Some x) (Some y) = test x y
both test _ _ = false

-- both are there or neither
abbrev pub both_or_neither : {X Y : Type 0} → Option X → Option Y → Bool
both_or_neither None None = true
both_or_neither (Some x) (Some y) = true
both_or_neither _ _ = false

-- the same kind of check
abbrev pub same_kind : CheckKind → CheckKind → Bool
same_kind kind.Setup kind.Setup = true
same_kind kind.Hold kind.Hold = true
same_kind kind.Recovery kind.Recovery = true
same_kind kind.Removal kind.Removal = true
same_kind kind.Width kind.Width = true
same_kind kind.Period kind.Period = true
same_kind _ _ = false

-- the same event
abbrev pub same_edge : Edge → Edge → Bool
same_edge edge.Any edge.Any = true
same_edge edge.Rise edge.Rise = true
same_edge edge.Fall edge.Fall = true
same_edge _ _ = false

abbrev pub same_event : Event → Event → Bool
same_event e f = nat_eq e.pin f.pin && same_edge e.edge f.edge

-- Whether a timing check of a module is this one of a cell with these pins: of its kind, with its events, its limit and, where
-- that has one, a condition.
abbrev pub same_check : List Pin → Check → TimingCheck → Bool
same_check pins k j =
    same_kind j.kind k.kind
    && (same_event j.first (event_of pins k.first)
    && (same_event j.second (event_of pins k.second)
    && (nat_eq j.limit k.limit && both_or_neither k.condition j.condition)))

abbrev pub same_check_at : CellData → VModule → ℕ → Bool
same_check_at d m j = both (same_check d.pins) (slice_get d.checks j) (slice_get m.checks j)

-- Whether a path is gated like an arc with this condition: `if` with one; without one `ifnone` where an arc with a condition has
-- its two pins, else always. (IEEE 1364-2005, 14.2.4.)
abbrev pub gated_by : Bool → Option Node → Gate → Bool
gated_by beside (Some f) (gate.If w) = true
gated_by true None gate.IfNone = true
gated_by false None gate.Always = true
gated_by _ _ _ = false

-- Whether a path is this arc of a cell: with its two pins, its delays and its gate.
abbrev pub same_path : CellData → Arc → VPath → Bool
same_path d arc path =
    nat_eq path.from (port_number d.pins arc.from)
    && (nat_eq path.to (port_number d.pins arc.to)
    && (nat_eq path.rise arc.rise
    && (nat_eq path.fall arc.fall && gated_by (list_any (is_conditional arc) d.arcs) arc.condition path.gate)))

abbrev pub same_path_at : CellData → VModule → ℕ → Bool
same_path_at d m a = both (same_path d) (slice_get d.arcs a) (slice_get m.paths a)

-- whether there are as many of a part, of which not only the number is asked; and whether the ports are those of the cell
abbrev pub number_holds : CellData → VModule → ShapePart → Bool
number_holds d m part.Ports = same_bits (port_inputs m) (cell_inputs d)
number_holds d m part.States = nat_eq (length (sequential_instances m)) (length d.groups)
number_holds d m part.StateInputs = true
number_holds d m part.Checks = nat_eq (length m.checks) (length d.checks)
number_holds d m part.Paths = nat_eq (length m.paths) (length d.arcs)
number_holds d m part.CheckInputs = true
number_holds d m part.PathInputs = true
number_holds d m part.Outputs = true

-- how many of a part are asked for one by one, and whether the one with this number, from 0, is the cell's
abbrev pub part_count : CellData → ShapePart → ℕ
part_count d part.Ports = 0
part_count d part.States = 0
part_count d part.StateInputs = length d.groups
part_count d part.Checks = length d.checks
part_count d part.Paths = length d.arcs
part_count d part.CheckInputs = length d.checks
part_count d part.PathInputs = length d.arcs
part_count d part.Outputs = length d.outputs

abbrev pub part_holds : CellData → VModule → ShapePart → ℕ → Bool
part_holds d m part.Ports k = true
part_holds d m part.States k = true
part_holds d m part.StateInputs k = feeds_group d m k
part_holds d m part.Checks k = same_check_at d m k
part_holds d m part.Paths k = same_path_at d m k
part_holds d m part.CheckInputs k = feeds_gating d m (check_gating d m k)
part_holds d m part.PathInputs k = feeds_gating d m (path_gating d m k)
part_holds d m part.Outputs k = feeds_output d m k

-- The questions on a part: that on its number, and that on each one, in their order.
abbrev pub asked_once : CellData → VModule → ShapePart → ShapeTest
asked_once d m p = record { part = p; number = 0; holds = number_holds d m p }

abbrev pub asked_of : CellData → VModule → ShapePart → ℕ → ShapeTest
asked_of d m p k = record { part = p; number = k + 1; holds = part_holds d m p k }

abbrev pub asked : CellData → VModule → ShapePart → List ShapeTest
asked d m p = map (asked_of d m p) (range_with_len 0 (part_count d p))

abbrev pub tests_of : CellData → VModule → ShapePart → List ShapeTest
tests_of d m p = asked_once d m p ∷ asked d m p

-- All questions on the shape, in the order in which they are asked.
abbrev pub all_parts : List ShapePart
all_parts =
    part.Ports ∷ part.States ∷ part.StateInputs ∷ part.Checks ∷ part.Paths ∷ part.CheckInputs ∷ part.PathInputs ∷ part.Outputs
    ∷ []

abbrev pub shape_tests : CellData → VModule → List ShapeTest
shape_tests d m = flat_map (tests_of d m) all_parts

-- the first that does not hold, where there is one
abbrev pub is_amiss : ShapeTest → Bool
is_amiss t = not t.holds

abbrev pub first_amiss : List ShapeTest → Option ShapeTest
first_amiss tests = find is_amiss tests
