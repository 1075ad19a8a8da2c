-- The ports of an entity: the input and output pins of its cell, in their order.
use Rattle.std.specs.Prelude.{ℕ, List, [], ◌∷◌, ◌++◌, if◌then◌else◌}
use Rattle.cell_machine.specs.declared.pins.Pin.{Pin}
use Rattle.cell_machine.specs.CellRules.{is_input}
use Rattle.vital_tables.specs.udp_tables.declared.models.VPort.{VPort}
pub use Rattle.vital_tables.specs.udp_tables.Ports.{is_port, port_number}
use Rattle.vital_models.specs.Kept.{port_name}

-- the port of a pin, after these ports of the entity with this name
abbrev pub port_after : List ℕ → List VPort → Pin → VPort
port_after entity ports pin = record { name = port_name entity ports pin.name; input = is_input pin.direction }

-- these ports and those of more pins
abbrev pub ports_after : List ℕ → List VPort → List Pin → List VPort
ports_after entity ports [] = ports
ports_after entity ports (pin ∷ pins) =
    (if is_port pin then ports_after entity (ports ++ port_after entity ports pin ∷ []) pins else ports_after entity ports pins)

-- the ports of the entity with this name, of a cell with these pins
abbrev pub ports_of : List ℕ → List Pin → List VPort
ports_of entity = ports_after entity []
