-- The ports of a driver with the numbers of the driven ones, by which the texts of both languages name the wires to buffers.
-- (The names and their numbers are this project's form.)
use Rattle.std.specs.Prelude.{ℕ, ◌+◌, nat_eq, Bool, false, List, [], ◌∷◌, slice_get, Option, Some, None, is_some, if◌then◌else◌}
use Rattle.std.specs.Option.{option_map_or}
use Rattle.udp_tables.specs.declared.models.VPort.{VPort}
use Rattle.driver_models.specs.declared.model.DriverModel.{DriverModel}

-- a port, and its number, from 1, among the driven outputs, where it is one of them
pub record NumberedPort : Type 0 where
  pub port : VPort
  pub number : Option ℕ

-- the driven output with this number, from 0, is the output with this place
abbrev pub is_driven_place : List ℕ → ℕ → ℕ → Bool
is_driven_place drives number place = option_map_or (nat_eq place) (slice_get drives number) false

-- The number of a port, from 1, among the driven outputs, where so many outputs stand before it, of which so many are driven.
-- None where it is not driven.
abbrev pub port_number : List ℕ → ℕ → ℕ → VPort → Option ℕ
port_number drives place number port =
    if port.input then None else (if is_driven_place drives number place then Some (number + 1) else None)

-- how many outputs stand before a port and with it, and how many driven ones
abbrev pub outputs_with : ℕ → VPort → ℕ
outputs_with place port = if port.input then place else place + 1

abbrev pub driven_with : ℕ → Option ℕ → ℕ
driven_with number None = number
driven_with number (Some own) = own

-- these ports, which stand behind so many outputs, of which so many are driven, with the numbers of the driven ones
abbrev pub numbered_ports : List ℕ → ℕ → ℕ → List VPort → List NumberedPort
numbered_ports drives place number [] = []
numbered_ports drives place number (port ∷ ports) =
    record { port = port; number = port_number drives place number port }
    ∷ numbered_ports drives (outputs_with place port) (driven_with number (port_number drives place number port)) ports

-- the ports of a driver with the numbers of the driven ones
abbrev pub ports_of : DriverModel → List NumberedPort
ports_of m = numbered_ports m.driver.drives 0 0 m.ports

-- the names of the driven ones among ports
abbrev pub driven_names : List NumberedPort → List (List ℕ)
driven_names [] = []
driven_names (at ∷ others) = if is_some at.number then at.port.name ∷ driven_names others else driven_names others
