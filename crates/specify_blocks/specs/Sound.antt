-- When a module is sound: each number and each net names a thing that its place allows, each row has the length of its table,
-- and each wire and output is driven once. (IEEE 1364-2005, clauses 8, 12, 14 and 15; the restrictions on places are this
-- project's.)
use Rattle.std.specs.Prelude.{◌≡◌, ℕ, Bool, true, false, ◌&&◌, All, ⊤, List, [], ◌∷◌, ◌++◌, Option, Some, None, nat_eq, length}
use Rattle.std.specs.Prelude.{slice_get, is_some, IsTrue, if◌then◌else◌}
use Rattle.std.specs.List.{list_all}
use Rattle.cell_machine.specs.declared.checks.CheckKind.{CheckKind}
use Rattle.cell_machine.specs.declared.checks.CheckKind.TheVariants as check_kind
use Rattle.cell_machine.specs.CellRules.{is_any_edge, are_opposite}
use Rattle.udp_tables.specs.declared.table.Udp.{Udp}
use Rattle.udp_tables.specs.Primitive.{IsCombinational}
use Rattle.udp_tables.specs.Sequential.{IsSequential}
use Rattle.specify_blocks.specs.declared.model.VNet.{VNet}
use Rattle.specify_blocks.specs.declared.model.Instance.{Instance}
use Rattle.specify_blocks.specs.declared.model.Instance.TheVariants as instance
use Rattle.specify_blocks.specs.declared.model.Gate.{Gate}
use Rattle.specify_blocks.specs.declared.model.Gate.TheVariants as gate
use Rattle.specify_blocks.specs.declared.model.VPath.{VPath}
use Rattle.udp_tables.specs.declared.timing_checks.TimingCheck.{TimingCheck}
use Rattle.specify_blocks.specs.declared.model.VModule.{VModule}
use Rattle.specify_blocks.specs.Nets.{are_apart, is_output_port, is_driven, holds_state, is_value, feeds_state, feeds_value}
use Rattle.specify_blocks.specs.Nets.{drivers}
use Rattle.udp_tables.specs.Ports.{is_input_port}

-- The table of a primitive with a state, or of one without. Each row has an entry for each input. In one with a state at most
-- one entry of a row is a change, else none is. (IEEE 1364-2005, 8.2 and 8.4.)
abbrev pub IsTable : Bool → Udp → Type 0
IsTable true udp = IsSequential udp
IsTable false udp = IsCombinational udp

-- An instance of a primitive, where these instances stand before it. One with a state drives a wire, and inputs and the
-- register of the checks feed it; one without drives a wire or an output, and inputs and states feed it.
pub record IsPrimitive (m : VModule) (earlier : List Instance) (udp : Udp) (output : VNet) (inputs : List VNet) : Type 0 where
  pub entries : length inputs ≡ length udp.inputs
  pub apart : IsTrue (are_apart (output ∷ inputs))
  pub drives : IsTrue (if udp.sequential then holds_state m output else is_driven m output)
  pub fed : IsTrue (list_all (if udp.sequential then feeds_state m else feeds_value m earlier) inputs)

-- an instance, where these instances stand before it
abbrev pub IsInstance : VModule → List Instance → Instance → Type 0
IsInstance m earlier (instance.Primitive number output inputs) =
    (udp : Udp) × (slice_get m.udps number ≡ Some udp) × IsPrimitive m earlier udp output inputs
IsInstance m earlier (instance.Constant output one) = IsTrue (is_driven m output)

-- instances, where others stand before them
abbrev pub AreInstances : VModule → List Instance → List Instance → Type 0
AreInstances m earlier [] = ⊤
AreInstances m earlier (i ∷ instances) = IsInstance m earlier i × AreInstances m (earlier ++ i ∷ []) instances

-- whether the condition of a path is a wire with a value that is no state
abbrev pub is_gate : VModule → Gate → Bool
is_gate m gate.Always = true
is_gate m (gate.If w) = is_value m m.instances w
is_gate m gate.IfNone = true

-- a path: from an input to an output
pub record IsPath (m : VModule) (path : VPath) : Type 0 where
  pub starts : IsTrue (is_input_port m.ports path.from)
  pub ends : IsTrue (is_output_port m.ports path.to)
  pub gated : IsTrue (is_gate m path.gate)

-- whether the events of a check are those that its text tells: of a width and of a period one event is written
abbrev pub has_written_events : TimingCheck → CheckKind → Bool
has_written_events k check_kind.Setup = true
has_written_events k check_kind.Hold = true
has_written_events k check_kind.Recovery = true
has_written_events k check_kind.Removal = true
has_written_events k check_kind.Width = nat_eq k.first.pin k.second.pin && are_opposite k.first.edge k.second.edge
has_written_events k check_kind.Period =
    nat_eq k.first.pin k.second.pin && (is_any_edge k.first.edge && is_any_edge k.second.edge)

-- whether the condition of a check, where there is one, is a wire with a value that is no state
abbrev pub is_enabling : VModule → Option ℕ → Bool
is_enabling m None = true
is_enabling m (Some w) = is_value m m.instances w

-- a check: of events of inputs, with a register that it changes
pub record IsCheck (m : VModule) (k : TimingCheck) : Type 0 where
  pub first : IsTrue (is_input_port m.ports k.first.pin)
  pub second : IsTrue (is_input_port m.ports k.second.pin)
  pub written : IsTrue (has_written_events k k.kind)
  pub enabled : IsTrue (is_enabling m k.condition)
  pub notified : IsTrue (is_some m.notifier)

-- A sound module.
pub record IsSound (m : VModule) : Type 0 where
  pub tables : All (λ (udp : Udp). IsTable udp.sequential udp) m.udps
  pub instances : AreInstances m [] m.instances
  pub driven : (n : VNet) → IsTrue (is_driven m n) → drivers m.instances n ≡ 1
  pub paths : All (IsPath m) m.paths
  pub checks : All (IsCheck m) m.checks
