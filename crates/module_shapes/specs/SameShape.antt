-- When the parts of a module are those of a cell, apart from the values of its tables.
use Rattle.std.specs.Prelude.{◌≡◌, ◌<◌, ℕ, IsTrue, List, length, Some, slice_get}
use Rattle.std.specs.List.{list_any}
use Rattle.cell_machine.specs.declared.pins.Pin.{Pin}
use Rattle.cell_machine.specs.declared.checks.Check.{Check}
use Rattle.cell_machine.specs.declared.arcs.Arc.{Arc}
use Rattle.cell_machine.specs.CellData.{CellData}
use Rattle.udp_tables.specs.declared.timing_checks.TimingCheck.{TimingCheck}
use Rattle.udp_tables.specs.Ports.{port_number, event_of}
use Rattle.specify_blocks.specs.declared.model.VPath.{VPath}
use Rattle.specify_blocks.specs.declared.model.VModule.{VModule}
use Rattle.specify_blocks.specs.Generated.{is_conditional}
use Rattle.module_terminals.specs.Terminals.{sequential_instances}
use Rattle.module_shapes.specs.Shape.{cell_inputs, port_inputs, both_or_neither, gated_by}
use Rattle.module_terminals.specs.Feeding.{feeds_group, Gating, check_gating, path_gating, feeds_condition, feeds_output}

-- A timing check of a module is this one of a cell with these pins: of its kind, with its events and its limit, and with a
-- condition exactly where that has one.
pub record SameCheck (pins : List Pin) (k : Check) (j : TimingCheck) : Type 0 where
  pub kind : j.kind ≡ k.kind
  pub first : j.first ≡ event_of pins k.first
  pub second : j.second ≡ event_of pins k.second
  pub limit : j.limit ≡ k.limit
  pub condition : IsTrue (both_or_neither k.condition j.condition)

-- A path is this arc of a cell: with its two pins, its delays and its gate.
pub record SamePath (d : CellData) (arc : Arc) (path : VPath) : Type 0 where
  pub from : path.from ≡ port_number d.pins arc.from
  pub to : path.to ≡ port_number d.pins arc.to
  pub rise : path.rise ≡ arc.rise
  pub fall : path.fall ≡ arc.fall
  pub gate : IsTrue (gated_by (list_any (is_conditional arc) d.arcs) arc.condition path.gate)

-- The parts of a module are those of a cell. Ports, timing checks, paths and instances of primitives with a state stand for
-- those of the cell in their order; each instance is fed by the nets that stand for the support of its part, in any order.
pub record HasShape (d : CellData) (m : VModule) : Type 0 where
  pub ports : port_inputs m ≡ cell_inputs d
  pub states : length (sequential_instances m) ≡ length d.groups
  pub state_inputs : (g : ℕ) → g < length d.groups → IsTrue (feeds_group d m g)
  pub check_count : length m.checks ≡ length d.checks
  pub checks :
      (i : ℕ) (k : Check) (j : TimingCheck)
      → slice_get d.checks i ≡ Some k → slice_get m.checks i ≡ Some j → SameCheck d.pins k j
  pub path_count : length m.paths ≡ length d.arcs
  pub paths :
      (i : ℕ) (arc : Arc) (path : VPath)
      → slice_get d.arcs i ≡ Some arc → slice_get m.paths i ≡ Some path → SamePath d arc path
  pub check_inputs : (i : ℕ) (u : Gating) → check_gating d m i ≡ Some u → IsTrue (feeds_condition d m u)
  pub path_inputs : (i : ℕ) (u : Gating) → path_gating d m i ≡ Some u → IsTrue (feeds_condition d m u)
  pub outputs : (o : ℕ) → o < length d.outputs → IsTrue (feeds_output d m o)
