-- The ports of a cell's models: its input and output pins, in their order. Both languages number them alike.
use Rattle.std.specs.Prelude.{ℕ, Bool, false, ◌||◌, List, take, count_by, slice_get}
use Rattle.std.specs.Option.{option_map_or}
use Rattle.cell_machine.specs.declared.pins.Pin.{Pin}
use Rattle.cell_machine.specs.declared.checks.Event.{Event}
use Rattle.cell_machine.specs.CellRules.{is_input, is_output}
use Rattle.udp_tables.specs.declared.models.VPort.{VPort}

-- whether a pin is a port
abbrev pub is_port : Pin → Bool
is_port pin = is_input pin.direction || is_output pin.direction

-- the number of a pin among the ports, from 0: how many ports stand before it
abbrev pub port_number : List Pin → ℕ → ℕ
port_number pins p = count_by is_port (take p pins)

-- an event of a pin as one of its port
abbrev pub event_of : List Pin → Event → Event
event_of pins event = record { pin = port_number pins event.pin; edge = event.edge }

-- whether this is the number of an input port of a model
abbrev pub is_input_port : List VPort → ℕ → Bool
is_input_port ports p = option_map_or (λ (port : VPort). port.input) (slice_get ports p) false
