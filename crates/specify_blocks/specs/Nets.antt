-- The nets of a module and what drives them. (IEEE 1364-2005, clauses 8 and 12; the restrictions are this project's.)
use Rattle.std.specs.Prelude.{ℕ, Bool, true, false, not, ◌&&◌, List, [], ◌∷◌, nat_eq, nat_lt, length, count_by, slice_get}
use Rattle.std.specs.Prelude.{is_some}
use Rattle.std.specs.List.{list_any}
use Rattle.std.specs.Option.{option_map_or}
use Rattle.udp_tables.specs.declared.table.Udp.{Udp}
use Rattle.udp_tables.specs.declared.models.VPort.{VPort}
use Rattle.udp_tables.specs.Ports.{is_input_port}
use Rattle.specify_blocks.specs.declared.model.VNet.{VNet}
use Rattle.specify_blocks.specs.declared.model.VNet.TheVariants as net
use Rattle.specify_blocks.specs.declared.model.Instance.{Instance}
use Rattle.specify_blocks.specs.declared.model.Instance.TheVariants as instance
use Rattle.specify_blocks.specs.declared.model.VModule.{VModule}

-- the same net
abbrev pub same_net : VNet → VNet → Bool
same_net (net.Port p) (net.Port q) = nat_eq p q
same_net (net.Wire v) (net.Wire w) = nat_eq v w
same_net net.Notifier net.Notifier = true
same_net _ _ = false

-- no net stands twice
abbrev pub are_apart : List VNet → Bool
are_apart [] = true
are_apart (n ∷ ns) = not (list_any (same_net n) ns) && are_apart ns

-- whether this is the number of an output port
abbrev pub is_output_port : List VPort → ℕ → Bool
is_output_port ports p = option_map_or (λ (port : VPort). not port.input) (slice_get ports p) false

-- whether this is the number of a primitive with a state
abbrev pub is_sequential : List Udp → ℕ → Bool
is_sequential udps j = option_map_or (λ (udp : Udp). udp.sequential) (slice_get udps j) false

-- a net that has to be driven: a wire or an output
abbrev pub is_driven : VModule → VNet → Bool
is_driven m (net.Port p) = is_output_port m.ports p
is_driven m (net.Wire w) = nat_lt w (length m.wires)
is_driven m net.Notifier = false

-- a net that can hold the state of a primitive: a wire
abbrev pub holds_state : VModule → VNet → Bool
holds_state m (net.Port p) = false
holds_state m (net.Wire w) = nat_lt w (length m.wires)
holds_state m net.Notifier = false

-- the net that an instance drives
abbrev pub net_driven : Instance → VNet
net_driven (instance.Primitive udp output inputs) = output
net_driven (instance.Constant output one) = output

-- whether the instance is one of a primitive with a state
abbrev pub has_state : List Udp → Instance → Bool
has_state udps (instance.Primitive udp output inputs) = is_sequential udps udp
has_state udps (instance.Constant output one) = false

-- whether one of the instances drives this wire as a state
abbrev pub is_state : VModule → List Instance → ℕ → Bool
is_state m instances w = list_any (λ i. has_state m.udps i && same_net (net_driven i) (net.Wire w)) instances

-- whether one of the instances drives this wire without a state
abbrev pub is_value : VModule → List Instance → ℕ → Bool
is_value m instances w = list_any (λ i. not (has_state m.udps i) && same_net (net_driven i) (net.Wire w)) instances

-- a net that can feed a primitive with a state: an input, or the register of the checks
abbrev pub feeds_state : VModule → VNet → Bool
feeds_state m (net.Port p) = is_input_port m.ports p
feeds_state m (net.Wire w) = false
feeds_state m net.Notifier = is_some m.notifier

-- a net that can feed a primitive without a state: an input, or a state that one of the earlier instances drives
abbrev pub feeds_value : VModule → List Instance → VNet → Bool
feeds_value m earlier (net.Port p) = is_input_port m.ports p
feeds_value m earlier (net.Wire w) = is_state m earlier w
feeds_value m earlier net.Notifier = false

-- how many of the instances drive this net
abbrev pub drivers : List Instance → VNet → ℕ
drivers instances n = count_by (λ i. same_net (net_driven i) n) instances
