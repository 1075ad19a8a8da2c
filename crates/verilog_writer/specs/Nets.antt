-- The names of a module's parts by their numbers. In a sound module each number has a name; a number that has none is written as
-- nothing.
use Rattle.std.specs.Prelude.{ℕ, List, [], Option, Some, None, slice_get}
use Rattle.std.specs.Option.{option_map_or}
use Rattle.udp_tables.specs.declared.table.Udp.{Udp}
use Rattle.udp_tables.specs.declared.models.VPort.{VPort}
use Rattle.specify_blocks.specs.declared.model.VNet.{VNet}
use Rattle.specify_blocks.specs.declared.model.VNet.TheVariants as net
use Rattle.specify_blocks.specs.declared.model.VModule.{VModule}

-- the name of a port
abbrev pub port_at : VModule → ℕ → List ℕ
port_at m p = option_map_or (λ (port : VPort). port.name) (slice_get m.ports p) []

-- the name of a wire
abbrev pub wire_at : VModule → ℕ → List ℕ
wire_at m w = option_map_or (λ (name : List ℕ). name) (slice_get m.wires w) []

-- the name of a primitive
abbrev pub primitive_at : VModule → ℕ → List ℕ
primitive_at m j = option_map_or (λ (udp : Udp). udp.name) (slice_get m.udps j) []

-- a name that may be absent
abbrev pub name_or_none : Option (List ℕ) → List ℕ
name_or_none None = []
name_or_none (Some name) = name

-- the name of the register of the checks
abbrev pub notifier_in : VModule → List ℕ
notifier_in m = name_or_none m.notifier

-- the name of a net
abbrev pub net_at : VModule → VNet → List ℕ
net_at m (net.Port p) = port_at m p
net_at m (net.Wire w) = wire_at m w
net_at m net.Notifier = notifier_in m
