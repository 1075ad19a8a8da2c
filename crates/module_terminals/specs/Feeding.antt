-- The conditions of a cell and the wires that stand for them in a module, and whether the nets of a part feed the instance that
-- stands for it. (This project's rule.)
use Rattle.std.specs.Prelude.{ℕ, Bool, true, false, Option, Some, None, slice_get}
use Rattle.std.specs.Option.{option_map_or}
use Rattle.bool_functions.specs.declared.tree.Node.{Node}
use Rattle.cell_machine.specs.declared.outputs.OutputPin.{OutputPin}
use Rattle.cell_machine.specs.declared.checks.Check.{Check}
use Rattle.cell_machine.specs.declared.arcs.Arc.{Arc}
use Rattle.cell_machine.specs.CellData.{CellData}
use Rattle.udp_tables.specs.declared.timing_checks.TimingCheck.{TimingCheck}
use Rattle.specify_blocks.specs.declared.model.VNet.{VNet}
use Rattle.specify_blocks.specs.declared.model.VNet.TheVariants as net
use Rattle.specify_blocks.specs.declared.model.Gate.{Gate}
use Rattle.specify_blocks.specs.declared.model.Gate.TheVariants as gate
use Rattle.specify_blocks.specs.declared.model.VPath.{VPath}
use Rattle.specify_blocks.specs.declared.model.VModule.{VModule}
use Rattle.specify_blocks.specs.Generated.{pin_net}
use Rattle.module_terminals.specs.Terminals.{sequential_instances, nets_feeding, same_nets, group_nets, condition_nets}
use Rattle.module_terminals.specs.Terminals.{output_nets, drives_value}

-- Whether the nets of group g feed the instance that stands for it.
abbrev pub feeds_group : CellData → VModule → ℕ → Bool
feeds_group d m g = option_map_or (λ i. same_nets (nets_feeding i) (group_nets d g)) (slice_get (sequential_instances m) g) false

-- a condition of a cell, and the wire that stands for it in a module
pub record Gating : Type 0 where
  pub condition : Node
  pub wire : ℕ

abbrev pub gating : Option Node → Option ℕ → Option Gating
gating (Some f) (Some w) = Some (record { condition = f; wire = w })
gating _ _ = None

-- the wire of an `if` path
abbrev pub gate_wire : Gate → Option ℕ
gate_wire gate.Always = None
gate_wire (gate.If w) = Some w
gate_wire gate.IfNone = None

-- the condition of two entries at one place, where both lists have it
abbrev pub gating_of : {X Y : Type 0} → (X → Option Node) → (Y → Option ℕ) → Option X → Option Y → Option Gating
gating_of condition wire (Some x) (Some y) = gating (condition x) (wire y)
gating_of condition wire _ _ = None

-- the condition of check j, and that of arc a
abbrev pub check_gating : CellData → VModule → ℕ → Option Gating
check_gating d m j =
    gating_of (λ (k : Check). k.condition) (λ (k : TimingCheck). k.condition) (slice_get d.checks j) (slice_get m.checks j)

abbrev pub path_gating : CellData → VModule → ℕ → Option Gating
path_gating d m a =
    gating_of (λ (arc : Arc). arc.condition) (λ (path : VPath). gate_wire path.gate) (slice_get d.arcs a) (slice_get m.paths a)

-- Whether the nets of a condition feed the instance that drives its wire.
abbrev pub feeds_condition : CellData → VModule → Gating → Bool
feeds_condition d m u = drives_value m (condition_nets d u.condition) (net.Wire u.wire)

-- the same where there is a condition
abbrev pub feeds_gating : CellData → VModule → Option Gating → Bool
feeds_gating d m None = true
feeds_gating d m (Some u) = feeds_condition d m u

-- the port of output o
abbrev pub output_net : CellData → ℕ → VNet
output_net d o = pin_net d.pins (option_map_or (λ (output : OutputPin). output.pin) (slice_get d.outputs o) 0)

-- Whether the nets of output o feed the instance that drives its port, which is a constant where there is none.
abbrev pub feeds_output : CellData → VModule → ℕ → Bool
feeds_output d m o = drives_value m (output_nets d m o) (output_net d o)
