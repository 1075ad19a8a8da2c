-- The ports of a cell's models: its input and output pins, in their order.
use Rattle.std.specs.Prelude.{ℕ, ◌+◌, List, [], ◌∷◌, ◌++◌, codes, decimal, if◌then◌else◌}
use Rattle.cell_machine.specs.declared.pins.Pin.{Pin}
use Rattle.cell_machine.specs.CellRules.{is_input}
use Rattle.verilog_tokens.specs.Kept.{is_kept_port_name}
use Rattle.udp_tables.specs.declared.models.VPort.{VPort}
pub use Rattle.udp_tables.specs.Ports.{is_port, port_number}

-- The name of port k, from 1, in Verilog text: its pin's, or `pin` and its number where that is not kept. (This project's
-- rule.)
abbrev pub port_name : ℕ → List ℕ → List ℕ
port_name k name = if is_kept_port_name name then name else codes "pin" ++ decimal k

-- port k, from 1, of this pin
abbrev pub port_of : ℕ → Pin → VPort
port_of k pin = record { name = port_name k pin.name; input = is_input pin.direction }

-- the ports of these pins, where the first one has the number k
abbrev pub ports_from : ℕ → List Pin → List VPort
ports_from k [] = []
ports_from k (pin ∷ pins) = if is_port pin then port_of k pin ∷ ports_from (k + 1) pins else ports_from k pins

-- the ports of a module of a cell with these pins
abbrev pub ports_of : List Pin → List VPort
ports_of = ports_from 1
